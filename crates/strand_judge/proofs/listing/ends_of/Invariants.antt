use Rattle.strand_judge.specs.Ends.{AreEnds}
use Rattle.strand_judge.proofs.listing.ends_of.Given as goal

abbrev pub invariant-loop-k : goal.invariant-loop-k
invariant-loop-k l = AreEnds l.graph.mode l.graph.events l.k l.ends.items
