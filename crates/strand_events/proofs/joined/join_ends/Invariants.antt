use Rattle.strand_events.specs.Joins.{AreJoinEnds}
use Rattle.strand_events.proofs.joined.join_ends.Given as goal

abbrev pub invariant-loop-number : goal.invariant-loop-number
invariant-loop-number l = AreJoinEnds l.events l.number l.ends
