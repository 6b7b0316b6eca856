use Rattle.std.proofs.Common.{arith}
use Rattle.std.proofs.lemmas.Result.{err_from_is_err_and}
use Rattle.strand_base.proofs.AppendsFront.{loop_more, loop_all, loop_stops}
use Rattle.strand_report.specs.Bubbles.{bubble_line}
use Rattle.strand_report.proofs.bubbles.put_bubbles.Goals as goal

pub returns-in_err-put_bubble : goal.returns-in_err-put_bubble
returns-in_err-put_bubble c =
    let p = err_from_is_err_and c.from_residual.result c.from_residual.ensures.1 in
    rw p.1 (loop_stops bubble_line c.args.bubbles.now c.loop-bubble.bubble-index _ _ _ _ (omega arith) c.loop-bubble.invariant c.in_err-put_bubble.ensures)

pub loop-bubble-preserved : goal.loop-bubble-preserved
loop-bubble-preserved c = loop_more bubble_line c.args.bubbles.now c.loop-bubble.bubble-index _ _ _ _ (omega arith) c.loop-bubble.invariant c.in_ok-put_bubble.ensures

pub returns : goal.returns
returns c = loop_all bubble_line c.args.bubbles.now c.loop-bubble.bubble-index _ _ (omega arith) c.loop-bubble.invariant
