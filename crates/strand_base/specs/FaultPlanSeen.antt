-- Which calls of a fake are to fail.
use Rattle.std.specs.Prelude.{ℕ, ◌+◌, ◌-◌, ◌^◌, ◌<◌, List, [], ◌∷◌, ◌++◌, Contains}
use Rattle.strand_base.specs.Counts.{next}

pub record FaultPlanSeen : Type 0 where
  -- how many calls were made; at the last value of a u64 it stays, and later calls have no number
  pub made : ℕ
  -- the numbers of the calls that are to fail, counted from 1
  pub failing : List ℕ

-- the next call has a number, and that number was named
abbrev pub FailsNext : FaultPlanSeen → Type 0
FailsNext plan = (plan.made < 2 ^ 64 - 1) × Contains plan.failing (plan.made + 1)

-- after one more call
abbrev pub called : FaultPlanSeen → FaultPlanSeen
called plan = record { made = next plan.made; failing = plan.failing }

-- with one more number named
abbrev pub naming : ℕ → FaultPlanSeen → FaultPlanSeen
naming call plan = record { made = plan.made; failing = plan.failing ++ call ∷ [] }
