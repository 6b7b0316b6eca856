use Rattle.std.proofs.lemmas.Result.{err_from_is_err_and}
use Rattle.strand_base.proofs.AppendsFront.{front_before, puts_after}
use Rattle.strand_isa.proofs.printing.put_one.Goals as goal

pub returns-in_err-put_name : goal.returns-in_err-put_name
returns-in_err-put_name c =
    let p = err_from_is_err_and c.from_residual.result c.from_residual.ensures.1 in
    rw p.1 (front_before (_) _ _ _ c.in_err-put_name.ensures)

pub returns : goal.returns
returns c = puts_after c.put_behind.result (_) _ _ _ _ c.in_ok-put_name.ensures c.put_behind.ensures
