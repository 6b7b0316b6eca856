use Rattle.std.proofs.Common.{[], ◌∷◌}
use Rattle.std.proofs.lemmas.Result.{err_from_is_err_and}
use Rattle.strand_base.proofs.AppendsFront.{front_before, puts_after}
use Rattle.strand_image.specs.declared.symbol.Region.TheVariants.{Code}
use Rattle.strand_asm.specs.Listing.{code_text, lines_text, names_at}
use Rattle.strand_asm.proofs.ListText.{lines_append, lone_line}
use Rattle.strand_asm.proofs.listing.put_named_word.Goals as goal

pub returns-in_err-put_code_names-clause-text : goal.returns-in_err-put_code_names-clause-text
returns-in_err-put_code_names-clause-text c =
    let p = err_from_is_err_and c.from_residual.result c.from_residual.ensures.1 in
    let names = names_at c.args.symbols.now Code c.args.place in
    rw (p.1, lines_append names (code_text c.args.word ∷ [])) (front_before (lines_text names) _ _ _ c.in_err-put_code_names.ensures)

pub returns-clause-text : goal.returns-clause-text
returns-clause-text c =
    let names = names_at c.args.symbols.now Code c.args.place in
    rw (lines_append names (code_text c.args.word ∷ []), lone_line (code_text c.args.word))
    (puts_after c.put_code_word.result (lines_text names) _ _ _ _ c.in_ok-put_code_names.ensures c.put_code_word.ensures.text)
