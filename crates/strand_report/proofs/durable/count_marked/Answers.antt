use Rattle.std.proofs.Common.{arith}
use Rattle.strand_events.specs.Order.{set_of}
use Rattle.strand_report.proofs.CountLoop.{count_more, count_same}
use Rattle.strand_report.proofs.MarkLoop.{count_all}
use Rattle.strand_report.proofs.durable.count_marked.Goals.{then-mark, else-mark}
use Rattle.strand_report.proofs.durable.count_marked.Goals as goal

pub loop-mark-preserved : goal.loop-mark-preserved
loop-mark-preserved c = elim c.if-mark.branch [
  | then-mark w ↦ count_more (set_of c.args.marks.now) c.loop-mark.mark-index c.loop-mark.count _ w.if-mark.true c.loop-mark.invariant w.count-is
  | else-mark w ↦ count_same (set_of c.args.marks.now) c.loop-mark.mark-index c.loop-mark.count _ w.if-mark.false c.loop-mark.invariant w.count-is
]

pub returns : goal.returns
returns c = count_all c.args.marks.now c.loop-mark.mark-index _ (omega arith) c.loop-mark.invariant
