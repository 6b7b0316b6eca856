-- A bank of memory modules, as contracts see it at one moment, and its calls.
use Rattle.std.specs.Prelude.{◌≡◌, ◌⊎◌, ℕ, zero, suc, ◌+◌, ◌-◌, ◌/◌, ◌%◌, ◌^◌, ◌<◌, ◌≤◌, cond, List, ◌++◌, length, sum, take, drop, map, slice_get, slice_set, slice_index, slice_index_or, Some, None, IfOk, IfErr, IfSome, OnOk, OnErr}
use Rattle.std.specs.Option.{option_map}
use Rattle.std.specs.declared.option.Option.{Option}
use Rattle.std.specs.declared.result.Result.{Result}
use Rattle.strand_base.specs.ModuleSeen.{written}
use Rattle.strand_base.specs.Counts.{Rose, counted}
use Rattle.strand_modules.specs.Objects.{Objects, MigrationSeen, all_objects, in_spare}
use Rattle.strand_modules.specs.ModuleWords.{module_size, word_count, bank_words}
use Rattle.strand_modules.specs.NextCopies.{CopyingSeen, CopiesNext, with_call}
use Rattle.strand_modules.specs.declared.refusals.Refusals.{Refusals}
use Rattle.strand_modules.specs.declared.refusals.AtModule.{AtModule}
use Rattle.strand_modules.specs.declared.accepted.Accepted.{Accepted}

-- Its objects are those of its modules, in order, and then the spare one, if it has one.
pub record BankSeen : Type 0 where
  -- how many words it has
  pub size : ℕ
  -- how many modules, and how many words each of them has
  pub modules : ℕ
  pub module_size : ℕ
  -- how many words each object has
  pub sizes : List ℕ
  -- its words, where all its objects tell theirs
  pub told : Option (List ℕ)
  -- each object's count of faults
  pub faults : List ℕ
  -- how many loads and stores each object was asked for
  pub calls : List ℕ
  -- the module that is migrating, and how far it is
  pub migration : MigrationSeen
  -- what each module refused; there are eight, of which the first are those of its modules
  pub refused : List Refusals
  -- what was accepted, of all modules together
  pub accepted : Accepted

-- the bank of these objects, with what they refused and accepted
abbrev pub bank_of : Objects → MigrationSeen → List Refusals → Accepted → BankSeen
bank_of o migration refused accepted = record {
  size = word_count o;
  modules = length o.parts;
  module_size = module_size o;
  sizes = map (λ m. m.size) (all_objects o);
  told = bank_words o migration;
  faults = map (λ m. m.faults) (all_objects o);
  calls = map (λ m. m.calls) (all_objects o);
  migration = migration;
  refused = refused;
  accepted = accepted;
}

-- There is no spare, or there is one.
abbrev pub HasNoSpare : BankSeen → Type 0
HasNoSpare bank = length bank.sizes ≡ bank.modules

abbrev pub HasSpare : BankSeen → Type 0
HasSpare bank = length bank.sizes ≡ bank.modules + 1

-- All objects are of one size, as in each bank that `new` made and its calls changed.
abbrev pub IsOfOneSize : BankSeen → Type 0
IsOfOneSize bank = (k : ℕ) → k < length bank.sizes → slice_index bank.sizes k ≡ bank.module_size

-- the object that has word i, by its number among all objects
abbrev pub object_of_word : BankSeen → ℕ → ℕ
object_of_word bank i = cond (in_spare bank.migration (i % bank.modules) (i / bank.modules)) bank.modules (i % bank.modules)

abbrev pub nothing_refused : Refusals
nothing_refused = record { fills = 0; stores = 0; reads = 0 }

abbrev pub nothing_accepted : Accepted
nothing_accepted = record { reads = 0; stores = 0 }

abbrev pub reads_accepted : ℕ → Accepted → Accepted
reads_accepted more a = record a { reads = counted more a.reads }

abbrev pub stores_accepted : ℕ → Accepted → Accepted
stores_accepted more a = record a { stores = counted more a.stores }

-- no refusal is counted
abbrev pub as_before : Refusals → Refusals
as_before r = r

abbrev pub fill_refused : Refusals → Refusals
fill_refused r = record r { fills = counted 1 r.fills }

abbrev pub store_refused : Refusals → Refusals
store_refused r = record r { stores = counted 1 r.stores }

abbrev pub read_refused : Refusals → Refusals
read_refused r = record r { reads = counted 1 r.reads }

-- one call more for each of the first n words, in order, of the object that has it
abbrev pub with_calls : (ℕ → ℕ) → ℕ → List ℕ → List ℕ
with_calls has zero calls = calls
with_calls has (suc n) calls = with_call (has n) (with_calls has n calls)

-- One of some counts stands at its last value.
abbrev pub AtLast : List ℕ → Type 0
AtLast counts = (k : ℕ) × (2 ^ 64 - 1 ≤ slice_index counts k)

-- The sum of some counts has risen, or one of them stands at its last value.
abbrev pub SumRose : List ℕ → List ℕ → Type 0
SumRose before now = (sum before < sum now) ⊎ AtLast now

-- No call but those on the spare changes the number of words, of modules or of objects, and the sum of the counts of faults never falls;
-- nor does a count where there is no spare. Where no module is migrating, none begins to; and the missed copies are never fewer.
pub record Keeps (old new : BankSeen) : Type 0 where
  pub size : new.size ≡ old.size
  pub modules : new.modules ≡ old.modules
  pub module_size : new.module_size ≡ old.module_size
  pub objects : length new.sizes ≡ length old.sizes
  pub one_size : IsOfOneSize old → IsOfOneSize new
  pub later : sum old.faults ≤ sum new.faults
  pub last : AtLast old.faults → AtLast new.faults
  pub own : HasNoSpare old → (k : ℕ) → slice_index old.faults k ≤ slice_index new.faults k
  pub idle : old.migration.running ≡ None → new.migration ≡ old.migration
  pub missed : old.migration.missed ≤ new.migration.missed

-- Module k refused: that is counted, and a count of faults rose; where there is no spare, it is that of this module.
pub record Refuses (count : Refusals → Refusals) (old new : BankSeen) (k : ℕ) : Type 0 where
  pub exists : k < old.modules
  pub counted : new.refused ≡ slice_set old.refused k (count (slice_index_or old.refused k nothing_refused))
  pub rose : SumRose old.faults new.faults
  pub own : HasNoSpare old → Rose (slice_index old.faults k) (slice_index new.faults k)

-- Word i was refused, by its module: the count of faults of the object that has it rose.
abbrev pub RefusesWord : (Refusals → Refusals) → BankSeen → BankSeen → ℕ → AtModule → Type 0
RefusesWord count old new i e = (e.«module» ≡ i % old.modules) × Refuses count old new e.«module» × Rose (slice_index old.faults (object_of_word old i)) (slice_index new.faults (object_of_word old i))

-- a read of word i
pub record Loads (old new : BankSeen) (i : ℕ) (result : Result ℕ AtModule) : Type 0 where
  pub kept : Keeps old new
  pub same : new.told ≡ old.told
  pub value : IfOk result (λ value. IfSome old.told (λ words. slice_get words i ≡ Some value))
  pub called : new.calls ≡ with_call (object_of_word old i) old.calls
  pub still : new.migration ≡ old.migration
  pub quiet : OnOk result (new.faults ≡ old.faults)
  pub accepted : OnOk result (new.refused ≡ old.refused)
  pub counted : OnOk result (new.accepted ≡ reads_accepted 1 old.accepted)
  pub refused : IfErr result (RefusesWord read_refused old new i)
  pub uncounted : OnErr result (new.accepted ≡ old.accepted)

-- what a migration goes by and changes
abbrev pub copying_of : BankSeen → CopyingSeen
copying_of bank = record { module_size = bank.module_size; modules = bank.modules; migration = bank.migration; faults = bank.faults; calls = bank.calls }

-- No count of faults has risen but at a missed copy; and none where nothing was migrating.
pub record Quiet (old new : BankSeen) : Type 0 where
  pub own : old.migration.running ≡ None → new.faults ≡ old.faults
  pub sum : (sum new.faults ≡ sum old.faults) ⊎ Rose old.migration.missed new.migration.missed

-- a store of a value at word i, without what it copies; the caller counts a refusal
pub record Writes {T : Type 0} (old new : BankSeen) (i value : ℕ) (result : Result T AtModule) : Type 0 where
  pub kept : Keeps old new
  pub whole : IfSome old.told (λ words. length words ≡ old.size)
  pub done : OnOk result (new.told ≡ written old.told i value)
  pub called : new.calls ≡ with_call (object_of_word old i) old.calls
  pub still : new.migration ≡ old.migration
  pub quiet : OnOk result (new.faults ≡ old.faults)
  pub accepted : OnOk result (new.refused ≡ old.refused)
  pub counted : OnOk result (new.accepted ≡ stores_accepted 1 old.accepted)
  pub same : OnErr result (new.told ≡ old.told)
  pub refused : IfErr result (RefusesWord as_before old new i)
  pub uncounted : OnErr result (new.accepted ≡ old.accepted)

-- copying alone: it changes no word and refuses nothing
pub record CopiesOn (old new : BankSeen) : Type 0 where
  pub kept : Keeps old new
  pub same : new.told ≡ old.told
  pub copies : CopiesNext (copying_of old) (copying_of new)
  pub quiet : Quiet old new
  pub refused : new.refused ≡ old.refused
  pub accepted : new.accepted ≡ old.accepted

-- a store of a value at word i
pub record Stores {T : Type 0} (count : Refusals → Refusals) (old new : BankSeen) (i value : ℕ) (result : Result T AtModule) : Type 0 where
  pub kept : Keeps old new
  -- what is told is all the words
  pub whole : IfSome old.told (λ words. length words ≡ old.size)
  pub done : OnOk result (new.told ≡ written old.told i value)
  -- then the next words are copied of the module that is migrating, if one is
  pub copies : OnOk result (CopiesNext (record (copying_of old) { calls = with_call (object_of_word old i) old.calls }) (copying_of new))
  pub quiet : OnOk result (Quiet old new)
  pub accepted : OnOk result (new.refused ≡ old.refused)
  pub counted : OnOk result (new.accepted ≡ stores_accepted 1 old.accepted)
  pub same : OnErr result (new.told ≡ old.told)
  pub called : OnErr result (new.calls ≡ with_call (object_of_word old i) old.calls)
  pub still : OnErr result (new.migration ≡ old.migration)
  pub refused : IfErr result (RefusesWord count old new i)
  pub uncounted : OnErr result (new.accepted ≡ old.accepted)

-- the words, with others in front
abbrev pub front_written : List ℕ → Option (List ℕ) → Option (List ℕ)
front_written front told = option_map (λ words. front ++ drop (length front) words) told

-- stores of the first words, in order, that copy nothing
pub record Fills {T : Type 0} (old new : BankSeen) (words : List ℕ) (result : Result T AtModule) : Type 0 where
  pub kept : Keeps old new
  pub still : new.migration ≡ old.migration
  pub done : OnOk result (new.told ≡ front_written words old.told)
  pub called : OnOk result (new.calls ≡ with_calls (object_of_word old) (length words) old.calls)
  pub quiet : OnOk result (new.faults ≡ old.faults)
  pub accepted : OnOk result (new.refused ≡ old.refused)
  pub counted : OnOk result (new.accepted ≡ stores_accepted (length words) old.accepted)
  -- the words before the refused one are stored, and none behind it was asked for
  pub refused : IfErr result (λ e. (n : ℕ) × (n < length words) × (e.«module» ≡ n % old.modules)
      × (new.told ≡ front_written (take n words) old.told) × (new.accepted ≡ stores_accepted n old.accepted)
      × (new.calls ≡ with_calls (object_of_word old) (n + 1) old.calls) × Refuses fill_refused old new e.«module»
      × Rose (slice_index old.faults (object_of_word old n)) (slice_index new.faults (object_of_word old n)))
