use Rattle.std.proofs.Common.{ℕ, List, [], ◌∷◌, refl}
use Rattle.std.specs.Fmt.{decimal}
use lib.Chars.{codes}
use Rattle.strand_base.specs.Text.{line_text}
use Rattle.std.proofs.lemmas.Result.{err_from_is_err_and}
use Rattle.strand_report.specs.Summary.{summary_text}
use Rattle.strand_report.proofs.TextParts.{in_parts, further, stopped, last_of_all}
use Rattle.strand_report.proofs.summary.write_summary.Goals as goal

pub returns-in_err-put_number : goal.returns-in_err-put_number
unfolding summary_text
returns-in_err-put_number c =
    let p = err_from_is_err_and c.from_residual.result c.from_residual.ensures.1 in
    rw p.1 (stopped _ _ c.in_err-put_number.ensures (in_parts refl))

pub returns-in_err-put_number-2 : goal.returns-in_err-put_number-2
unfolding summary_text
returns-in_err-put_number-2 c =
    let p = err_from_is_err_and c.from_residual-in_err-put_number-2.result c.from_residual-in_err-put_number-2.ensures.1 in
    rw p.1 (stopped _ _ c.in_err-put_number-2.ensures
    (further _ _ c.in_ok-put_number.ensures (in_parts refl)))

pub returns-in_err-put_number-3 : goal.returns-in_err-put_number-3
unfolding summary_text
returns-in_err-put_number-3 c =
    let p = err_from_is_err_and c.from_residual-in_err-put_number-3.result c.from_residual-in_err-put_number-3.ensures.1 in
    rw p.1 (stopped _ _ c.in_err-put_number-3.ensures
    (further _ _ c.in_ok-put_number-2.ensures
    (further _ _ c.in_ok-put_number.ensures (in_parts refl))))

pub returns-in_err-put_number-4 : goal.returns-in_err-put_number-4
unfolding summary_text
returns-in_err-put_number-4 c =
    let p = err_from_is_err_and c.from_residual-in_err-put_number-4.result c.from_residual-in_err-put_number-4.ensures.1 in
    rw p.1 (stopped _ _ c.in_err-put_number-4.ensures
    (further _ _ c.in_ok-put_number-3.ensures
    (further _ _ c.in_ok-put_number-2.ensures
    (further _ _ c.in_ok-put_number.ensures (in_parts refl)))))

pub returns : goal.returns
unfolding summary_text
returns c =
    let first : List ℕ = line_text (codes "persists" ∷ decimal c.args.summary.now.persists ∷ []) in
    last_of_all c.put_judge.result {old = c.args.into.now.items} _ _ c.put_judge.ensures
    (further _ _ c.in_ok-put_number-4.ensures
    (further _ _ c.in_ok-put_number-3.ensures
    (further _ _ c.in_ok-put_number-2.ensures
    (further first _ c.in_ok-put_number.ensures (in_parts refl)))))
