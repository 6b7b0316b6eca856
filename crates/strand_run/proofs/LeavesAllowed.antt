-- Serves clause crash of strand_main: what a run leaves in the bank is allowed, by the law on durable sets.
use Rattle.std.proofs.Common.{◌≡◌, ℕ, List, take, inl, inr}
use Rattle.std.specs.Prelude.{◌⊎◌, Some, None}
use Rattle.std.specs.declared.option.Option.{Option}
use Rattle.strand_inputs.specs.declared.step.Step.{Step}
use Rattle.strand_modules.specs.Bank.{BankSeen}
use Rattle.strand_again.specs.Inputs.{Inputs}
use Rattle.strand_again.specs.Seen.{StandsAfter, StandsAfterSome}
use Rattle.strand_again.specs.Stepping.{steps_made}
use Rattle.strand_again.proofs.Allowed.{durable_allowed, left_within}
use Rattle.strand_run.specs.Allowed.{HoldsAllowed, LeavesAllowed, MayLeaveAllowed}
use Rattle.strand_run.specs.Fault.{Course, fill, ran}
use Rattle.strand_run.specs.Outcome.{PartFilled, RanTo, Leaves, MayLeave}

holds_allowed : (u : Inputs) (steps : List Step) (before after : BankSeen) → StandsAfter u steps before after → HoldsAllowed u steps before after
holds_allowed u steps before after stands =
    let allowed = durable_allowed u steps in record { closed = allowed.closed; joined = allowed.joined; words = stands; judged = left_within u steps }

-- what stands after the steps, whether or not a read was refused
stands_of : (u : Inputs) (steps : List Step) (read : Option ℕ) (before after : BankSeen) → RanTo u steps read before after → StandsAfter u steps before after
stands_of u steps None before after leaves = leaves.0
stands_of u steps (Some n) before after leaves = leaves.3.0

pub leaves_allowed : (u : Inputs) (f : Course) (before after : BankSeen) → Leaves u f before after → LeavesAllowed u f before after
leaves_allowed u (fill m) before after leaves = (leaves.0, leaves.2)
leaves_allowed u (ran store read) before after leaves = holds_allowed u (steps_made store u.steps) before after (stands_of u (steps_made store u.steps) read before after leaves)

pub may_leave_allowed : (u : Inputs) (before after : BankSeen) → MayLeave u before after → MayLeaveAllowed u before after
may_leave_allowed u before after may = go may.stands
  where
    go : (after.told ≡ before.told) ⊎ (PartFilled u before after ⊎ StandsAfterSome u before after) → MayLeaveAllowed u before after
    go (inl same) = inl same
    go (inr (inl part)) = inr (inl part)
    go (inr (inr so)) = inr (inr (so.0, so.1, holds_allowed u (take so.0 u.steps) before after so.2))
