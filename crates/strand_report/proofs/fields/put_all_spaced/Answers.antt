use Rattle.std.proofs.Common.{◌∷◌, arith}
use Rattle.std.proofs.lemmas.Result.{err_from_is_err_and}
use Rattle.strand_base.proofs.AppendsFront.{loop_more, loop_all, loop_stops}
use Rattle.strand_report.specs.Fields.{field_text}
use Rattle.strand_report.proofs.fields.put_all_spaced.Goals as goal

pub returns-in_err-put_spaced : goal.returns-in_err-put_spaced
returns-in_err-put_spaced c =
    let p = err_from_is_err_and c.from_residual.result c.from_residual.ensures.1 in
    rw p.1 (loop_stops (λ f. 32 ∷ field_text f) c.args.fields.now c.loop-field.field-index _ _ _ _ (omega arith) c.loop-field.invariant c.in_err-put_spaced.ensures)

pub loop-field-preserved : goal.loop-field-preserved
loop-field-preserved c = loop_more (λ f. 32 ∷ field_text f) c.args.fields.now c.loop-field.field-index _ _ _ _ (omega arith) c.loop-field.invariant c.in_ok-put_spaced.ensures

pub returns : goal.returns
returns c = loop_all (λ f. 32 ∷ field_text f) c.args.fields.now c.loop-field.field-index _ _ (omega arith) c.loop-field.invariant
