use Rattle.std.proofs.Common.{◌≡◌}
use Rattle.strand_path.specs.Checked.{greatest_below}
use Rattle.strand_path.proofs.checking.greatest.Given as goal

abbrev pub invariant-loop-k : goal.invariant-loop-k
invariant-loop-k l = l.greatest ≡ greatest_below l.events l.levels l.k
