use Rattle.std.proofs.Common.{◌≡◌, ◌++◌, take}
use Rattle.strand_report.specs.Trace.{edge_lines}
use Rattle.strand_report.proofs.trace.put_edges.Given as goal

abbrev pub invariant-loop-edge : goal.invariant-loop-edge
invariant-loop-edge l = l.into.items ≡ l.fn.into.items ++ edge_lines (take l.edge-index l.edges)
