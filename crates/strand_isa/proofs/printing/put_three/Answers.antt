use Rattle.std.proofs.lemmas.Result.{err_from_is_err_and}
use Rattle.strand_base.proofs.AppendsFront.{front_before, puts_after}
use Rattle.strand_isa.proofs.printing.put_three.Goals as goal

pub returns-in_err-put_two : goal.returns-in_err-put_two
returns-in_err-put_two c =
    let p = err_from_is_err_and c.from_residual.result c.from_residual.ensures.1 in
    rw p.1 (front_before (_) _ _ _ c.in_err-put_two.ensures)

pub returns : goal.returns
returns c = puts_after c.put_behind.result (_) _ _ _ _ c.in_ok-put_two.ensures c.put_behind.ensures
