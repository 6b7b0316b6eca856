use Rattle.std.proofs.lemmas.Result.{err_from_is_err_and}
use Rattle.strand_base.proofs.AppendsFront.{front_before, puts_after}
use Rattle.strand_asm.proofs.number_lines.put_number_line.Goals as goal

pub returns-in_err-put_number : goal.returns-in_err-put_number
returns-in_err-put_number c =
    let p = err_from_is_err_and c.from_residual.result c.from_residual.ensures.1 in
    rw p.1 (front_before (_) _ _ _ c.in_err-put_number.ensures)

pub returns : goal.returns
returns c = puts_after c.put.result (_) _ _ _ _ c.in_ok-put_number.ensures c.put.ensures
