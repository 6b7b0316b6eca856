use Rattle.std.proofs.Common.{◌≡◌, ◌<◌, ℕ, true, Some}
use Rattle.std.specs.Prelude.{slice_get}
use Rattle.strand_order.specs.declared.edge.Edge.{Edge}
use Rattle.strand_order.specs.Edges.{edges_of}
use Rattle.strand_path.specs.Checked.{goes_up}
use Rattle.strand_path.proofs.checking.are_levels.Given as goal

abbrev pub invariant-loop-edge : goal.invariant-loop-edge
invariant-loop-edge l = (m : ℕ) (e : Edge) → m < l.edge-index → slice_get (edges_of l.graph.mode l.graph.events) m ≡ Some e → goes_up l.graph.events l.levels e.before e.after ≡ true
