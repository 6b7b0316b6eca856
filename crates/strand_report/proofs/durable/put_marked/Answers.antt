use Rattle.std.proofs.Common.{arith}
use Rattle.std.proofs.lemmas.Result.{err_from_is_err_and}
use Rattle.strand_report.proofs.MarkLoop.{members_more, members_same, members_stop, members_all}
use Rattle.strand_report.proofs.durable.put_marked.Goals.{then-mark+in_ok-put_spaced, else-mark}
use Rattle.strand_report.proofs.durable.put_marked.Goals as goal

pub returns-in_err-put_spaced : goal.returns-in_err-put_spaced
returns-in_err-put_spaced c =
    let p = err_from_is_err_and c.from_residual.result c.from_residual.ensures.1 in
    rw p.1 (members_stop c.args.marks.now c.loop-number.number _ _ _ (omega arith) c.if-mark.true c.loop-number.invariant c.in_err-put_spaced.ensures)

pub loop-number-preserved : goal.loop-number-preserved
loop-number-preserved c = elim c.if-mark.branch [
  | then-mark+in_ok-put_spaced w ↦ rw w.into-is (members_more c.args.marks.now c.loop-number.number _ _ _ w.if-mark.true c.loop-number.invariant w.in_ok-put_spaced.ensures)
  | else-mark w ↦ rw w.into-is (members_same c.args.marks.now c.loop-number.number _ _ w.if-mark.false c.loop-number.invariant)
]

pub returns : goal.returns
returns c = members_all c.args.marks.now c.loop-number.number _ _ (omega arith) c.loop-number.invariant
