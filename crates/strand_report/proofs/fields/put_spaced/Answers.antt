use Rattle.std.proofs.Common.{[], ◌∷◌}
use Rattle.std.proofs.lemmas.Result.{err_from_is_err_and}
use Rattle.strand_base.proofs.AppendsFront.{front_before}
use Rattle.strand_report.specs.Fields.{field_text}
use Rattle.strand_report.proofs.fields.put_spaced.Goals as goal

pub returns-in_err-put : goal.returns-in_err-put
returns-in_err-put c =
    let p = err_from_is_err_and c.from_residual.result c.from_residual.ensures.1 in
    rw p.1 (front_before (32 ∷ []) (field_text c.args.field) _ _ c.in_err-put.ensures)
