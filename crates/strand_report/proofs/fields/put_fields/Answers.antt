use Rattle.std.proofs.lemmas.List.{take_rest}
use Rattle.std.proofs.lemmas.Result.{err_from_is_err_and}
use Rattle.strand_report.proofs.FieldLines.{line_of_fields}
use Rattle.strand_report.proofs.TextParts.{in_parts, further, stopped, last}
use Rattle.strand_report.proofs.fields.put_fields.Goals as goal

pub returns-in_err-put_field : goal.returns-in_err-put_field
returns-in_err-put_field c =
    let p = err_from_is_err_and c.from_residual.result c.from_residual.ensures.1 in
    rw p.1 (stopped _ _ c.in_err-put_field.ensures (in_parts (line_of_fields c.args.front.now c.args.rest.now _ c.requires)))

pub returns-in_err-put_all_spaced : goal.returns-in_err-put_all_spaced
returns-in_err-put_all_spaced c =
    let p = err_from_is_err_and c.from_residual-in_err-put_all_spaced.result c.from_residual-in_err-put_all_spaced.ensures.1 in
    rw p.1 (stopped _ _ (rw take_rest at c.in_err-put_all_spaced.ensures)
    (further _ _ c.in_ok-put_field.ensures (in_parts (line_of_fields c.args.front.now c.args.rest.now _ c.requires))))

pub returns-in_err-put_all_spaced-2 : goal.returns-in_err-put_all_spaced-2
returns-in_err-put_all_spaced-2 c =
    let p = err_from_is_err_and c.from_residual-in_err-put_all_spaced-2.result c.from_residual-in_err-put_all_spaced-2.ensures.1 in
    rw p.1 (stopped _ _ c.in_err-put_all_spaced-2.ensures (further _ _ (rw take_rest at c.in_ok-put_all_spaced.ensures)
    (further _ _ c.in_ok-put_field.ensures (in_parts (line_of_fields c.args.front.now c.args.rest.now _ c.requires)))))

pub returns : goal.returns
returns c =
    last c.put.result _ _ c.put.ensures (further _ _ c.in_ok-put_all_spaced-2.ensures
    (further _ _ (rw take_rest at c.in_ok-put_all_spaced.ensures)
    (further _ _ c.in_ok-put_field.ensures (in_parts (line_of_fields c.args.front.now c.args.rest.now _ c.requires)))))
