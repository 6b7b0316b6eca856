use Rattle.std.proofs.Common.{codes}
use Rattle.std.proofs.lemmas.Result.{err_from_is_err_and}
use Rattle.strand_report.specs.Persists.{marked}
use Rattle.strand_report.proofs.MemberLines.{members_parts}
use Rattle.strand_report.proofs.TextParts.{in_parts, further, stopped, last}
use Rattle.strand_report.proofs.durable.put_durable.Goals as goal

pub returns-in_err-put_count : goal.returns-in_err-put_count
returns-in_err-put_count c =
    let p = err_from_is_err_and c.from_residual.result c.from_residual.ensures.1 in
    rw p.1 (stopped _ _ (rw c.count_marked.ensures at c.in_err-put_count.ensures) (in_parts (members_parts (codes "durable") (marked c.args.marks.now))))

pub returns-in_err-put_marked : goal.returns-in_err-put_marked
returns-in_err-put_marked c =
    let p = err_from_is_err_and c.from_residual-in_err-put_marked.result c.from_residual-in_err-put_marked.ensures.1 in
    rw p.1 (stopped _ _ c.in_err-put_marked.ensures
    (further _ _ (rw c.count_marked.ensures at c.in_ok-put_count.ensures) (in_parts (members_parts (codes "durable") (marked c.args.marks.now)))))

pub returns : goal.returns
returns c =
    last c.put.result _ _ c.put.ensures (further _ _ c.in_ok-put_marked.ensures
    (further _ _ (rw c.count_marked.ensures at c.in_ok-put_count.ensures) (in_parts (members_parts (codes "durable") (marked c.args.marks.now)))))
