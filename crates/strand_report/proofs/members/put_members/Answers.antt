use Rattle.std.proofs.lemmas.Result.{err_from_is_err_and}
use Rattle.strand_report.proofs.MemberLines.{members_parts}
use Rattle.strand_report.proofs.TextParts.{in_parts, further, stopped, last}
use Rattle.strand_report.proofs.members.put_members.Goals as goal

pub returns-in_err-put_count : goal.returns-in_err-put_count
returns-in_err-put_count c =
    let p = err_from_is_err_and c.from_residual.result c.from_residual.ensures.1 in
    rw p.1 (stopped _ _ c.in_err-put_count.ensures (in_parts (members_parts c.args.name.now c.args.members.now)))

pub returns-in_err-put_numbers : goal.returns-in_err-put_numbers
returns-in_err-put_numbers c =
    let p = err_from_is_err_and c.from_residual-in_err-put_numbers.result c.from_residual-in_err-put_numbers.ensures.1 in
    rw p.1 (stopped _ _ c.in_err-put_numbers.ensures
    (further _ _ c.in_ok-put_count.ensures (in_parts (members_parts c.args.name.now c.args.members.now))))

pub returns : goal.returns
returns c =
    last c.put.result _ _ c.put.ensures (further _ _ c.in_ok-put_numbers.ensures
    (further _ _ c.in_ok-put_count.ensures (in_parts (members_parts c.args.name.now c.args.members.now))))
