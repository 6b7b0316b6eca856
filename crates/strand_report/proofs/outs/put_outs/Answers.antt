use Rattle.std.proofs.Common.{arith}
use Rattle.std.proofs.lemmas.Result.{err_from_is_err_and}
use Rattle.strand_base.proofs.AppendsFront.{loop_more, loop_all, loop_stops}
use Rattle.strand_report.specs.Outs.{out_line}
use Rattle.strand_report.proofs.outs.put_outs.Goals as goal

pub returns-in_err-put_out : goal.returns-in_err-put_out
returns-in_err-put_out c =
    let p = err_from_is_err_and c.from_residual.result c.from_residual.ensures.1 in
    rw p.1 (loop_stops out_line c.args.events.now c.loop-event.event-index _ _ _ _ (omega arith) c.loop-event.invariant c.in_err-put_out.ensures)

pub loop-event-preserved : goal.loop-event-preserved
loop-event-preserved c = loop_more out_line c.args.events.now c.loop-event.event-index _ _ _ _ (omega arith) c.loop-event.invariant c.in_ok-put_out.ensures

pub returns : goal.returns
returns c = loop_all out_line c.args.events.now c.loop-event.event-index _ _ (omega arith) c.loop-event.invariant
