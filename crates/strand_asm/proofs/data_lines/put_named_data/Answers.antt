use Rattle.std.proofs.Common.{map, arith}
use Rattle.std.proofs.lemmas.Result.{err_from_is_err_and}
use Rattle.strand_base.proofs.AppendsFront.{front_before, puts_after}
use Rattle.strand_asm.specs.Listing.{lines_text, name_text, names_lines, past_names, word_lines}
use Rattle.strand_asm.proofs.ListText.{lines_append, past_names_least}
use Rattle.strand_asm.proofs.data_lines.put_named_data.Goals as goal

pub put_data_word-requires : goal.put_data_word-requires
put_data_word-requires c = let few = past_names_least c.args.zeros (map name_text c.args.names.now) in let is = c.in_ok-left.ensures.left in omega arith

pub returns-in_err-left-clause-text : goal.returns-in_err-left-clause-text
returns-in_err-left-clause-text c =
    let p = err_from_is_err_and c.from_residual.result c.from_residual.ensures.1 in
    let ns = map name_text c.args.names.now in
    rw (p.1, lines_append (names_lines c.args.zeros ns) (word_lines (past_names c.args.zeros ns) c.args.word)) (front_before (lines_text (names_lines c.args.zeros ns)) _ _ _ c.in_err-left.ensures.text)

pub returns-clause-text : goal.returns-clause-text
returns-clause-text c =
    let ns = map name_text c.args.names.now in
    rw (lines_append (names_lines c.args.zeros ns) (word_lines (past_names c.args.zeros ns) c.args.word), ← c.in_ok-left.ensures.left)
    (puts_after c.put_data_word.result (lines_text (names_lines c.args.zeros ns)) _ _ _ _ c.in_ok-left.ensures.text c.put_data_word.ensures.text)
