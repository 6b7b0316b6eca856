-- How far a migration comes by accepted stores.
use Rattle.std.specs.Prelude.{◌≡◌, ℕ, ◌+◌, ◌-◌, ◌*◌, ◌<◌, ◌≤◌, min, cond, nat_lt, Some, None, MatchOption}
use Rattle.strand_base.specs.Counts.{counted}
use Rattle.strand_modules.specs.Bank.{BankSeen}

-- So many stores were accepted, and n of them missed a copy: the others copied eight words each, or all that were left. The module is
-- migrating as long as words are left.
pub record ModuleProgress (stores : ℕ) (old new : BankSeen) (k : ℕ) : Type 0 where
  pub n : ℕ
  pub few : n ≤ stores
  pub missed : new.migration.missed ≡ counted n old.migration.missed
  pub most : new.migration.copied ≤ min old.module_size (old.migration.copied + 8 * stores)
  pub least : min old.module_size (old.migration.copied + 8 * (stores - n)) ≤ new.migration.copied
  pub ends : new.migration.running ≡ cond (nat_lt new.migration.copied old.module_size) (Some k) None

-- where words are left, if a module is migrating
abbrev pub MigrationProgress : ℕ → BankSeen → BankSeen → Type 0
MigrationProgress stores old new = MatchOption old.migration.running (new.migration ≡ old.migration) (λ k. old.migration.copied < old.module_size → ModuleProgress stores old new k)
