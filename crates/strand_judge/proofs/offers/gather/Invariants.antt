use Rattle.std.proofs.Common.{ℕ, List, ◌≤◌, length}
use Rattle.strand_judge.specs.Words.{crash_of}
use Rattle.strand_judge.specs.Offered.{AreOffered}
use Rattle.strand_judge.proofs.offers.gather.Given as goal

abbrev pub invariant-loop-k : goal.invariant-loop-k
invariant-loop-k l = record { bound : l.k ≤ length l.events; offered : (first : List ℕ) → AreOffered l.events (crash_of first l.found) (length l.found) l.k l.offered.firsts.items l.offered.nexts.items }

abbrev pub decreases-loop-k : goal.decreases-loop-k
decreases-loop-k l = l.k
