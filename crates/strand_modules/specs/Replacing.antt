-- A module that takes the place of another: each of its words is loaded from the one and stored in the other, in order.
use Rattle.std.specs.Prelude.{◌≡◌, ◌≢◌, ℕ, ◌+◌, ◌<◌, ◌≤◌, slice_index, slice_set, IfSome, MatchOption, Some, None}
use Rattle.strand_base.specs.Counts.{Rose, counted}
use Rattle.strand_base.specs.ModuleSeen.{ModuleSeen}
use Rattle.strand_modules.specs.Bank.{BankSeen, Keeps}
use Rattle.strand_modules.specs.declared.faults.ReplaceFault.{ReplaceFault}
use Rattle.strand_modules.specs.declared.faults.ReplaceFault.TheVariants.{BadIndex, Migrating, Size, Load, Store}

-- Module i, which is not migrating, may be replaced by this object.
abbrev pub Fits : BankSeen → ℕ → ModuleSeen → Type 0
Fits bank i object = (i < bank.modules) × (bank.migration.running ≢ Some i) × (object.size ≡ slice_index bank.sizes i)

-- Module i was asked for so many words.
abbrev pub AskedOf : BankSeen → BankSeen → ℕ → ℕ → Type 0
AskedOf old new i n = new.calls ≡ slice_set old.calls i (counted n (slice_index old.calls i))

-- The object has taken the place of module i, with all its words.
pub record Replaces (old new : BankSeen) (i : ℕ) (object : ModuleSeen) : Type 0 where
  pub fits : Fits old i object
  pub size : new.size ≡ old.size
  pub modules : new.modules ≡ old.modules
  pub module_size : new.module_size ≡ old.module_size
  pub sizes : new.sizes ≡ old.sizes
  -- The bank's words are as before, where they are told; an object that doesn't tell its words ends that.
  pub told : MatchOption object.told (new.told ≡ None) (λ _. IfSome old.told (λ words. new.told ≡ Some words))
  pub faults : new.faults ≡ slice_set old.faults i object.faults
  pub calls : new.calls ≡ slice_set old.calls i (counted object.size object.calls)
  pub still : new.migration ≡ old.migration
  pub refused : new.refused ≡ old.refused
  pub accepted : new.accepted ≡ old.accepted

-- Why it has not: what the object was before and is now that it is handed back.
abbrev pub ReplaceFails : BankSeen → BankSeen → ℕ → ModuleSeen → ModuleSeen → ReplaceFault → Type 0
ReplaceFails old new i object back BadIndex = (old.modules ≤ i) × (new ≡ old) × (back ≡ object)
ReplaceFails old new i object back Migrating = (i < old.modules) × (old.migration.running ≡ Some i) × (new ≡ old) × (back ≡ object)
ReplaceFails old new i object back (Size need have) = (i < old.modules) × (old.migration.running ≢ Some i) × (need ≡ slice_index old.sizes i) × (have ≡ object.size) × (need ≢ have)
    × (new ≡ old) × (back ≡ object)
-- word n was not loaded
ReplaceFails old new i object back (Load part) = Fits old i object × (part ≡ i) × Rose (slice_index old.faults i) (slice_index new.faults i)
    × ((n : ℕ) × (n < object.size) × AskedOf old new i (n + 1) × (back.calls ≡ counted n object.calls)) × (back.faults ≡ object.faults)
-- word n was not stored
ReplaceFails old new i object back Store = Fits old i object × Rose object.faults back.faults
    × ((n : ℕ) × (n < object.size) × AskedOf old new i (n + 1) × (back.calls ≡ counted (n + 1) object.calls)) × (new.faults ≡ old.faults)

-- The bank has its words and its modules, and has counted nothing; the object is handed back.
pub record KeepsModule (old new : BankSeen) (i : ℕ) (object back : ModuleSeen) (why : ReplaceFault) : Type 0 where
  pub kept : Keeps old new
  pub told : new.told ≡ old.told
  pub still : new.migration ≡ old.migration
  pub refused : new.refused ≡ old.refused
  pub accepted : new.accepted ≡ old.accepted
  pub size : back.size ≡ object.size
  pub fails : ReplaceFails old new i object back why
