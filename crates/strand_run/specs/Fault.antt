-- The course of a run on a bank, by what the bank refuses, and what the bank shows of it.
use Rattle.std.specs.Prelude.{ℕ}
use Rattle.std.specs.declared.option.Option.{Option}
use Rattle.strand_modules.specs.Bank.{BankSeen, Keeps, Refuses, fill_refused, store_refused, read_refused}
use Rattle.strand_rules.specs.declared.turn.StepFault.{StepFault}
use Rattle.strand_again.specs.Outcome.{RefusedBy, module_of}

-- Modules are counted from 0, steps from 1.
pub data Course : Type 0 where
  -- the fill, at module m
  fill : ℕ → Course
  -- The image was run; the store of a step was refused, if one was, and then the read at the end, if it was.
  ran : (store : Option StepFault) (read : Option ℕ) → Course

-- the stores, and then the reads
pub record RefusedRun (before after : BankSeen) (store : Option StepFault) (read : Option ℕ) : Type 0 where
  pub between : BankSeen
  pub kept_first : Keeps before between
  pub kept_second : Keeps between after
  pub first : RefusedBy store_refused before between (module_of store)
  pub second : RefusedBy read_refused between after read

-- what the bank shows of a fault
abbrev pub ShownByBank : BankSeen → BankSeen → Course → Type 0
ShownByBank before after (fill m) = Refuses fill_refused before after m
ShownByBank before after (ran store read) = RefusedRun before after store read
