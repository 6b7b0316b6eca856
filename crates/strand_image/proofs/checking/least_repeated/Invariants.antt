use Rattle.strand_image.specs.Checking.{names_of}
use Rattle.strand_image.proofs.ByName.{LeastSoFar}
use Rattle.strand_image.proofs.checking.least_repeated.Given as goal

abbrev pub invariant-loop-k : goal.invariant-loop-k
invariant-loop-k l = LeastSoFar (names_of l.symbols) l.order l.k l.least
