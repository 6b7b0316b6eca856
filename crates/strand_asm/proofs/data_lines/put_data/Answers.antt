use Rattle.std.proofs.Common.{◌≡◌, ◌+◌, ◌++◌, length, drop, get_or, arith}
use Rattle.std.proofs.lemmas.Result.{err_from_is_err_and}
use Rattle.strand_base.proofs.AppendsFront.{puts_after, so_far_none, so_far_more, so_far_stops}
use Rattle.strand_asm.specs.Listing.{data_lines, data_texts, lines_text, names_at, names_lines, past_names, past_word, word_lines}
use Rattle.strand_asm.proofs.ListText.{data_more, data_end, past_names_least, past_word_least}
use Rattle.strand_asm.proofs.data_lines.put_data.Goals as goal

pub loop-place-init : goal.loop-place-init
loop-place-init c = record { few = omega arith; told = so_far_none _ _ }

pub returns-in_err-zeros : goal.returns-in_err-zeros
unfolding data_lines
returns-in_err-zeros c =
    let p = err_from_is_err_and c.from_residual.result c.from_residual.ensures.1 in
    let names = names_at c.args.symbols.now c.args.region in
    let i = c.loop-place.place in
    let w = get_or c.args.words.now i 0 in
    let left = past_names c.loop-place.zeros (names i) in
    rw p.1 (so_far_stops _ _ (lines_text (names_lines c.loop-place.zeros (names i) ++ word_lines left w)) (lines_text (data_texts names (i + 1) (past_word left w) (drop (i + 1) c.args.words.now))) _ _ _
    c.loop-place.invariant.told (data_more names c.loop-place.zeros c.args.words.now i (omega arith)) (rw c.standing_at-names.ensures at c.in_err-zeros.ensures.text))

pub loop-place-preserved : goal.loop-place-preserved
loop-place-preserved c =
    let names = names_at c.args.symbols.now c.args.region in
    let i = c.loop-place.place in
    let w = get_or c.args.words.now i 0 in
    let left = past_names c.loop-place.zeros (names i) in
    let zeros : c.in_ok-zeros.zeros ≡ past_word left w = rw c.standing_at-names.ensures at c.in_ok-zeros.ensures.left in
    record {
      few = let a = past_names_least c.loop-place.zeros (names i) in let b = past_word_least left w in let c' = c.loop-place.invariant.few in omega arith;
      told = rw zeros (so_far_more _ _ (lines_text (names_lines c.loop-place.zeros (names i) ++ word_lines left w)) (lines_text (data_texts names (i + 1) (past_word left w) (drop (i + 1) c.args.words.now))) _ _ _
          c.loop-place.invariant.told (data_more names c.loop-place.zeros c.args.words.now i (omega arith)) (rw c.standing_at-names.ensures at c.in_ok-zeros.ensures.text));
    }

pub returns : goal.returns
unfolding data_lines
returns c =
    let names = names_at c.args.symbols.now c.args.region in
    let h = c.loop-place.invariant.told in
    let end : c.loop-place.place ≡ length c.args.words.now = omega arith in
    rw h.parts (puts_after c.put_space_and_names.result h.done _ _ _ _ h.appended (rw (data_end names c.loop-place.zeros c.args.words.now c.loop-place.place (omega arith), end) (rw c.standing_at-names-2.ensures at c.put_space_and_names.ensures)))
