use Rattle.strand_path.proofs.LongestPath.Links.{AreTraced}
use Rattle.strand_path.proofs.tracing.traces_of.Given as goal

abbrev pub invariant-loop-edge : goal.invariant-loop-edge
invariant-loop-edge l = AreTraced l.graph.mode l.graph.events l.edge-index l.traces.levels.items l.traces.firsts.items l.traces.vias.items
