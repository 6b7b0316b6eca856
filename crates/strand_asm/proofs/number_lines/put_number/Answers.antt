use Rattle.std.proofs.lemmas.Result.{err_from_is_err_and}
use Rattle.strand_base.proofs.AppendsFront.{front_before, puts_after}
use Rattle.strand_asm.proofs.number_lines.put_number.Goals as goal

pub returns-in_err-put : goal.returns-in_err-put
returns-in_err-put c =
    let p = err_from_is_err_and c.from_residual.result c.from_residual.ensures.1 in
    rw p.1 (front_before (_) _ _ _ c.in_err-put.ensures)

pub returns : goal.returns
returns c = puts_after c.print_decimal.result (_) _ _ _ _ c.in_ok-put.ensures c.print_decimal.ensures
