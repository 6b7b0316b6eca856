use Rattle.std.proofs.Common.{◌≡◌, ◌+◌, ◌∷◌, [], ◌++◌, length, drop, get_or, arith, below_more}
use Rattle.std.proofs.lemmas.Result.{err_from_is_err_and}
use Rattle.strand_base.proofs.AppendsFront.{puts_after, so_far_none, so_far_more, so_far_stops}
use Rattle.strand_image.specs.declared.symbol.Region.TheVariants.{Code}
use Rattle.strand_asm.specs.Listing.{code_lines, code_text, code_texts, lines_text, names_at}
use Rattle.strand_asm.proofs.ListText.{code_more, code_end}
use Rattle.strand_asm.proofs.listing.put_code.Goals as goal

pub loop-place-init : goal.loop-place-init
loop-place-init c = record { told = so_far_none _ _; decoded = λ k lt. absurd (omega arith) }

pub returns-in_err-put_named_word-clause-text : goal.returns-in_err-put_named_word-clause-text
unfolding code_lines
returns-in_err-put_named_word-clause-text c =
    let p = err_from_is_err_and c.from_residual.result c.from_residual.ensures.1 in
    let names = names_at c.args.symbols.now Code in
    let i = c.loop-place.place in
    rw p.1 (so_far_stops _ _ (lines_text (names i ++ code_text (get_or c.args.code.now i 0) ∷ [])) (lines_text (code_texts names (i + 1) (drop (i + 1) c.args.code.now))) _ _ _ c.loop-place.invariant.told (code_more names c.args.code.now i (omega arith)) c.in_err-put_named_word.ensures.text)

pub loop-place-preserved : goal.loop-place-preserved
loop-place-preserved c =
    let names = names_at c.args.symbols.now Code in
    let i = c.loop-place.place in
    record {
      told = so_far_more _ _ (lines_text (names i ++ code_text (get_or c.args.code.now i 0) ∷ [])) (lines_text (code_texts names (i + 1) (drop (i + 1) c.args.code.now))) _ _ _ c.loop-place.invariant.told (code_more names c.args.code.now i (omega arith)) c.in_ok-put_named_word.ensures.text;
      decoded = below_more _ _ c.loop-place.invariant.decoded c.in_ok-put_named_word.ensures.decoded;
    }

pub returns-clause-text : goal.returns-clause-text
unfolding code_lines
returns-clause-text c =
    let names = names_at c.args.symbols.now Code in
    let h = c.loop-place.invariant.told in
    let end : c.loop-place.place ≡ length c.args.code.now = omega arith in
    rw h.parts (puts_after c.put_code_names.result h.done _ _ _ _ h.appended (rw (code_end names c.args.code.now c.loop-place.place (omega arith), end) c.put_code_names.ensures))
