-- Files in memory: the bytes under each name, and when a fetch fails.
use Rattle.std.specs.Prelude.{◌≡◌, ◌≢◌, ℕ, ◌⊎◌, List, [], Some, None, Result, Ok, Err, string_bytes, unwrap_or}
use Rattle.std.specs.Option.{option_map}
use Rattle.std.specs.BTreeMap.{get_by_text}
use Rattle.strand_base.specs.Counts.{next}
use Rattle.strand_base.specs.FilesSeen.{Held, FilesSeen}
use Rattle.strand_base.specs.FaultPlanSeen.{FaultPlanSeen, FailsNext}
use Rattle.strand_base.specs.declared.files.FetchFault.{FetchFault}
use Rattle.strand_base.specs.declared.files.FetchFault.TheVariants.{Failed, TooLong, OutOfMemory}
use Rattle.strand_base.specs.declared.held_files.HeldFiles.{HeldFiles}
use Rattle.strand_base.specs.declared.memory_files.MemoryFiles.{MemoryFiles}
use Rattle.strand_base.specs.declared.never_files.NeverFiles.{NeverFiles}

-- the bytes under each name
abbrev pub held_in : HeldFiles → Held
held_in files name = option_map (λ bytes. bytes.items) (get_by_text files.files name)

-- These bytes stand under the name, and the other names hold what they held.
pub record HoldsAlso (before now : Held) (added bytes : List ℕ) : Type 0 where
  pub here : now added ≡ Some bytes
  pub others : (name : List ℕ) → name ≢ added → now name ≡ before name

abbrev pub held_by : MemoryFiles → Held
held_by files = held_in files.files

-- which fetches of `MemoryFiles` are to fail, by their numbers
abbrev pub fault_plan_of : MemoryFiles → FaultPlanSeen
fault_plan_of files = files.plan

-- what the trait sees of `MemoryFiles`
abbrev pub files_in_memory : MemoryFiles → FilesSeen
files_in_memory files = record {
  told = Some (held_by files);
  faults = files.faults;
  fetches = files.plan.made;
  last_failed = option_map string_bytes files.last_failed;
}

-- The next fetch of this name is to fail: its number was named, or no file has the name.
abbrev pub FailsAt : MemoryFiles → List ℕ → Type 0
FailsAt files name = FailsNext (fault_plan_of files) ⊎ (held_by files name ≡ None)

-- How each answer comes, and what it counts: Failed only at a fetch that is to fail, and such a fetch
-- answers Failed, or OutOfMemory where it finds no memory for its name; the count rises at Failed alone.
abbrev pub ComesBy : {T : Type 0} → Result T FetchFault → Type 0 → ℕ → ℕ → Type 0
ComesBy (Ok x) fails before now = (fails → ⊥) × (now ≡ before)
ComesBy (Err Failed) fails before now = fails × (now ≡ next before)
ComesBy (Err TooLong) fails before now = (fails → ⊥) × (now ≡ before)
ComesBy (Err OutOfMemory) fails before now = now ≡ before

-- `NeverFiles` holds no bytes under a name that it was not given.
abbrev pub or_empty : Held → Held
or_empty held name = Some (unwrap_or (held name) [])

abbrev pub held_by_never : NeverFiles → Held
held_by_never files = or_empty (held_in files.files)

-- what the trait sees of `NeverFiles`
abbrev pub files_never_failing : NeverFiles → FilesSeen
files_never_failing files = record { told = Some (held_by_never files); faults = 0; fetches = files.fetches; last_failed = None }
