use Rattle.std.proofs.Common.{refl}
use Rattle.std.proofs.lemmas.Result.{err_from_is_err_and}
use Rattle.strand_report.proofs.TextParts.{in_parts, further, stopped, last}
use Rattle.strand_report.proofs.members.put_count.Goals as goal

pub returns-in_err-put : goal.returns-in_err-put
returns-in_err-put c =
    let p = err_from_is_err_and c.from_residual.result c.from_residual.ensures.1 in
    rw p.1 (stopped _ _ c.in_err-put.ensures (in_parts refl))

pub returns-in_err-put_spaced : goal.returns-in_err-put_spaced
returns-in_err-put_spaced c =
    let p = err_from_is_err_and c.from_residual-in_err-put_spaced.result c.from_residual-in_err-put_spaced.ensures.1 in
    rw p.1 (stopped _ _ c.in_err-put_spaced.ensures (further _ _ c.in_ok-put.ensures (in_parts refl)))

pub returns : goal.returns
returns c = last c.put-2.result _ _ c.put-2.ensures (further _ _ c.in_ok-put_spaced.ensures (further _ _ c.in_ok-put.ensures (in_parts refl)))
