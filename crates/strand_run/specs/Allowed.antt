-- What persist order allows of the bank that a run leaves.
use Rattle.std.specs.Prelude.{◌≡◌, ◌⊎◌, ℕ, ◌≤◌, List, length, take}
use Rattle.strand_events.specs.Order.{IsDownwardClosed, HoldsJoined}
use Rattle.strand_inputs.specs.declared.step.Step.{Step}
use Rattle.strand_judge.specs.Verdicts.{IsVerdict, IsYesWithin}
use Rattle.strand_judge.specs.Words.{crash_of}
use Rattle.strand_judge.specs.declared.verdict.Verdict.{Verdict}
use Rattle.strand_modules.specs.Bank.{BankSeen, front_written}
use Rattle.strand_again.specs.Inputs.{Inputs}
use Rattle.strand_again.specs.Seen.{visible_after, durable_after, image_after}
use Rattle.strand_again.specs.Stepping.{steps_made}
use Rattle.strand_run.specs.Fault.{Course, fill, ran}
use Rattle.strand_run.specs.Outcome.{PartFilled}

-- The bank's first words are the image of the durable set, which is downward-closed in persist order and holds every persist before its core's last join.
-- So the judge of this run says yes to those words, with a set within the durable one.
pub record HoldsAllowed (u : Inputs) (steps : List Step) (before after : BankSeen) : Type 0 where
  pub closed : IsDownwardClosed u.config.mode (visible_after u steps).trace (durable_after u steps)
  pub joined : HoldsJoined (visible_after u steps).trace (durable_after u steps)
  pub words : after.told ≡ front_written (image_after u steps) before.told
  pub judged : (judged : Verdict) → IsVerdict u.config.mode (visible_after u steps).trace (crash_of u.image.persistent (image_after u steps)) judged
      → IsYesWithin (visible_after u steps).trace (durable_after u steps) judged

-- by the fault that was met: the words of the fill that were stored, or an allowed image
abbrev pub LeavesAllowed : Inputs → Course → BankSeen → BankSeen → Type 0
LeavesAllowed u (fill m) before after = PartFilled u before after
LeavesAllowed u (ran store read) before after = HoldsAllowed u (steps_made store u.steps) before after

-- where no memory was left: the bank is as before, or filled in part, or holds an allowed image of some first steps
abbrev pub MayLeaveAllowed : Inputs → BankSeen → BankSeen → Type 0
MayLeaveAllowed u before after =
    (after.told ≡ before.told) ⊎ (PartFilled u before after ⊎ ((n : ℕ) × (n ≤ length u.steps) × HoldsAllowed u (take n u.steps) before after))
