use Rattle.std.proofs.Common.{◌∷◌, []}
use Rattle.std.proofs.lemmas.Result.{err_from_is_err_and}
use Rattle.strand_base.proofs.AppendsFront.{front_before, puts_after}
use Rattle.strand_asm.specs.Listing.{space_text, word_text, lines_text}
use Rattle.strand_asm.proofs.ListText.{lines_append, lone_line}
use Rattle.strand_asm.proofs.data_lines.put_space_and_word.Goals as goal

pub returns-in_err-put_space : goal.returns-in_err-put_space
returns-in_err-put_space c =
    let p = err_from_is_err_and c.from_residual.result c.from_residual.ensures.1 in
    rw (p.1, lines_append (space_text c.args.zeros) (word_text 0 c.args.word ∷ [])) (front_before (lines_text (space_text c.args.zeros)) _ _ _ c.in_err-put_space.ensures)

pub returns : goal.returns
returns c =
    rw (lines_append (space_text c.args.zeros) (word_text 0 c.args.word ∷ []), lone_line (word_text 0 c.args.word))
    (puts_after c.put_word_line.result (lines_text (space_text c.args.zeros)) _ _ _ _ c.in_ok-put_space.ensures c.put_word_line.ensures)
