use Rattle.strand_asm.specs.Listing.{word_text}
use Rattle.std.proofs.lemmas.Result.{err_from_is_err_and}
use Rattle.strand_base.proofs.AppendsFront.{front_before, puts_after}
use Rattle.strand_asm.proofs.number_lines.put_word_line.Goals as goal

pub returns-in_err-put_word : goal.returns-in_err-put_word
returns-in_err-put_word c =
    let p = err_from_is_err_and c.from_residual.result c.from_residual.ensures.1 in
    rw p.1 (front_before (word_text c.args.from c.args.n) _ _ _ c.in_err-put_word.ensures)

pub returns : goal.returns
returns c = puts_after c.put.result (word_text c.args.from c.args.n) _ _ _ _ c.in_ok-put_word.ensures c.put.ensures
