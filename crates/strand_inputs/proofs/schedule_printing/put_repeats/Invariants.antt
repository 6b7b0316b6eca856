use Rattle.std.proofs.Common.{length}
use Rattle.strand_base.proofs.AppendsFront.{SoFar}
use Rattle.strand_inputs.specs.Schedule.{schedule_text}
use Rattle.strand_inputs.proofs.schedule_printing.put_repeats.Given as goal

abbrev pub invariant-loop-first : goal.invariant-loop-first
invariant-loop-first l = SoFar (schedule_text l.steps) (schedule_text l.rest) l.fn.into.items l.into.items

abbrev pub decreases-loop-first : goal.decreases-loop-first
decreases-loop-first l = length l.rest
