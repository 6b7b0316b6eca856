use Rattle.std.proofs.Common.{arith}
use Rattle.std.proofs.lemmas.Result.{err_from_is_err_and}
use Rattle.strand_base.proofs.AppendsFront.{loop_more, loop_all, loop_stops}
use Rattle.strand_report.specs.Trace.{edge_line}
use Rattle.strand_report.proofs.trace.put_edges.Goals as goal

pub returns-in_err-put_edge : goal.returns-in_err-put_edge
returns-in_err-put_edge c =
    let p = err_from_is_err_and c.from_residual.result c.from_residual.ensures.1 in
    rw p.1 (loop_stops edge_line c.args.edges.now c.loop-edge.edge-index _ _ _ _ (omega arith) c.loop-edge.invariant c.in_err-put_edge.ensures)

pub loop-edge-preserved : goal.loop-edge-preserved
loop-edge-preserved c = loop_more edge_line c.args.edges.now c.loop-edge.edge-index _ _ _ _ (omega arith) c.loop-edge.invariant c.in_ok-put_edge.ensures

pub returns : goal.returns
returns c = loop_all edge_line c.args.edges.now c.loop-edge.edge-index _ _ (omega arith) c.loop-edge.invariant
