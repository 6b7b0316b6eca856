use Rattle.std.proofs.Common.{◌≡◌, ◌<◌, ℕ, false}
use Rattle.strand_path.specs.Picking.{is_of_level}
use Rattle.strand_path.proofs.picking.first_of.Given as goal

abbrev pub invariant-loop-k : goal.invariant-loop-k
invariant-loop-k l = (k : ℕ) → k < l.k → is_of_level l.events l.levels l.level k ≡ false
