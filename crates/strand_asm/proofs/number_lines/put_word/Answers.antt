use lib.Chars.{codes}
use Rattle.std.proofs.lemmas.Result.{err_from_is_err_and}
use Rattle.strand_base.proofs.AppendsFront.{front_before, puts_after}
use Rattle.strand_asm.proofs.number_lines.put_word.Goals as goal

pub returns-in_err-put : goal.returns-in_err-put
returns-in_err-put c =
    let p = err_from_is_err_and c.from_residual.result c.from_residual.ensures.1 in
    rw p.1 (front_before (codes ".word 0x") _ _ _ c.in_err-put.ensures)

pub returns : goal.returns
returns c = puts_after c.put_digits.result (codes ".word 0x") _ _ _ _ c.in_ok-put.ensures c.put_digits.ensures
