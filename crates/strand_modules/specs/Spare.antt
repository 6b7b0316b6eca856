-- The calls on the spare object and on a migration.
use Rattle.std.specs.Prelude.{◌≡◌, ◌≢◌, ◌⊎◌, ℕ, ◌<◌, ◌≤◌, cond, nat_eq, List, [], ◌∷◌, ◌++◌, IfSome, IsSome, MatchOption, Some, None}
use Rattle.std.specs.declared.option.Option.{Option}
use Rattle.strand_base.specs.ModuleSeen.{ModuleSeen}
use Rattle.strand_modules.specs.Bank.{BankSeen, HasNoSpare, HasSpare, IsOfOneSize}
use Rattle.strand_modules.specs.NextCopies.{swapped}
use Rattle.strand_modules.specs.declared.faults.BeginFault.{BeginFault}
use Rattle.strand_modules.specs.declared.faults.BeginFault.TheVariants.{NoSpare, BadIndex, Migrating}
use Rattle.strand_modules.specs.declared.faults.SpareFault.{SpareFault}
use Rattle.strand_modules.specs.declared.faults.SpareFault.TheVariants.{Occupied, Size}

-- The object has become the bank's spare.
pub record AddsSpare (old new : BankSeen) (object : ModuleSeen) : Type 0 where
  pub none : HasNoSpare old
  pub fits : object.size ≡ old.module_size
  pub size : new.size ≡ old.size
  pub modules : new.modules ≡ old.modules
  pub module_size : new.module_size ≡ old.module_size
  pub sizes : new.sizes ≡ old.sizes ++ object.size ∷ []
  -- The bank's words are as before, where they are told; an object that doesn't tell its words ends that.
  pub told : MatchOption object.told (new.told ≡ None) (λ _. new.told ≡ old.told)
  pub faults : new.faults ≡ old.faults ++ object.faults ∷ []
  pub calls : new.calls ≡ old.calls ++ object.calls ∷ []
  pub still : new.migration ≡ old.migration
  pub refused : new.refused ≡ old.refused
  pub accepted : new.accepted ≡ old.accepted

-- why it has not
abbrev pub SpareRefuses : BankSeen → ModuleSeen → SpareFault → Type 0
SpareRefuses old object Occupied = HasSpare old
SpareRefuses old object (Size need have) = HasNoSpare old × (need ≡ old.module_size) × (have ≡ object.size) × (need ≢ have)

-- The bank is as before and the object is handed back.
pub record KeepsNoSpare (old new : BankSeen) (object back : ModuleSeen) (why : SpareFault) : Type 0 where
  pub same : new ≡ old
  pub back_is : back ≡ object
  pub why_is : SpareRefuses old object why

-- The spare is taken out, which leaves the bank's words.
pub record TakesSpare (old new : BankSeen) (object : ModuleSeen) : Type 0 where
  pub there : HasSpare old
  pub idle : old.migration.running ≡ None
  pub sizes : old.sizes ≡ new.sizes ++ object.size ∷ []
  pub modules : new.modules ≡ old.modules
  pub module_size : IsOfOneSize old → new.module_size ≡ old.module_size
  pub size : IsOfOneSize old → new.size ≡ old.size
  pub larger : old.size ≤ new.size
  pub told : IsOfOneSize old → IfSome old.told (λ words. new.told ≡ Some words)
  pub faults : old.faults ≡ new.faults ++ object.faults ∷ []
  pub calls : old.calls ≡ new.calls ++ object.calls ∷ []
  pub still : new.migration ≡ old.migration
  pub refused : new.refused ≡ old.refused
  pub accepted : new.accepted ≡ old.accepted

-- None exactly where there is no spare or a migration is running.
abbrev pub Takes : {B : Type 0} → (B → ModuleSeen) → BankSeen → BankSeen → Option B → Type 0
Takes holds old new None = (HasNoSpare old ⊎ IsSome old.migration.running) × (new ≡ old)
Takes holds old new (Some object) = TakesSpare old new (holds object)

abbrev pub moved_at_once : BankSeen → ℕ → List ℕ → List ℕ
moved_at_once bank k counts = cond (nat_eq bank.module_size 0) (swapped k bank.modules counts) counts

-- Module k is migrating, and nothing is copied yet; a module of no words has then migrated at once.
pub record Begins (old new : BankSeen) (k : ℕ) : Type 0 where
  pub there : HasSpare old
  pub exists : k < old.modules
  pub idle : old.migration.running ≡ None
  pub size : new.size ≡ old.size
  pub modules : new.modules ≡ old.modules
  pub module_size : new.module_size ≡ old.module_size
  pub sizes : new.sizes ≡ moved_at_once old k old.sizes
  pub told : new.told ≡ old.told
  pub faults : new.faults ≡ moved_at_once old k old.faults
  pub calls : new.calls ≡ moved_at_once old k old.calls
  pub migration : new.migration ≡ record { running = cond (nat_eq old.module_size 0) None (Some k); copied = 0; missed = 0 }
  pub refused : new.refused ≡ old.refused
  pub accepted : new.accepted ≡ old.accepted

-- Why it is not, in this order.
abbrev pub BeginFails : BankSeen → ℕ → BeginFault → Type 0
BeginFails old k NoSpare = HasNoSpare old
BeginFails old k BadIndex = HasSpare old × (old.modules ≤ k)
BeginFails old k (Migrating j) = HasSpare old × (k < old.modules) × (old.migration.running ≡ Some j)
