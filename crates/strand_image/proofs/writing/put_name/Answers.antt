use Rattle.std.proofs.Common.{[], ◌∷◌, length}
use Rattle.std.proofs.lemmas.Result.{err_from_is_err_and}
use Rattle.strand_base.proofs.AppendsFront.{front_before, puts_after}
use Rattle.strand_image.proofs.writing.put_name.Goals as goal

pub returns-in_err-put : goal.returns-in_err-put
returns-in_err-put c =
    let p = err_from_is_err_and c.from_residual.result c.from_residual.ensures.1 in
    rw p.1 (front_before _ _ _ _ c.in_err-put.ensures)

pub returns : goal.returns
returns c = puts_after c.put-2.result (length c.args.name.now ∷ []) c.args.name.now _ _ _ c.in_ok-put.ensures c.put-2.ensures
