use Rattle.std.proofs.Common.{length, ◌-◌, ◌≤◌, take}
use Rattle.strand_base.specs.SinkSeen.{TakesAll}
use Rattle.strand_base.proofs.putting.put_all.Given as goal

abbrev pub invariant-loop-at : goal.invariant-loop-at
invariant-loop-at g l = (l.at ≤ length l.text) × TakesAll (g.K.Sink.seen l.initial.out) (g.K.Sink.seen l.out) (take l.at l.text)

abbrev pub decreases-loop-at : goal.decreases-loop-at
decreases-loop-at g l = length l.text - l.at
