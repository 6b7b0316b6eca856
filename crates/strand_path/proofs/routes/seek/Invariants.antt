use Rattle.std.proofs.Common.{◌≡◌, ℕ, ◌-◌, ◌<◌, ◌≤◌, true, Some, length}
use Rattle.std.specs.Prelude.{slice_get}
use Rattle.strand_order.specs.declared.edge.Edge.{Edge}
use Rattle.strand_path.specs.Seeking.{stands_before}
use Rattle.strand_path.proofs.routes.seek.Given as goal

abbrev pub invariant-loop-place : goal.invariant-loop-place
invariant-loop-place l = record {
  low : l.from ≤ l.place;
  within : l.place ≤ length l.edges;
  before : (m : ℕ) (e : Edge) → l.from ≤ m → m < l.place → slice_get l.edges m ≡ Some e → stands_before e l.i l.j ≡ true;
}

abbrev pub decreases-loop-place : goal.decreases-loop-place
decreases-loop-place l = length l.edges - l.place
