use lib.Chars.{codes}
use Rattle.std.proofs.lemmas.Result.{err_from_is_err_and}
use Rattle.strand_base.proofs.AppendsFront.{front_before, puts_after}
use Rattle.strand_asm.proofs.listing.put_code_section.Goals as goal

pub returns-in_err-put-clause-text : goal.returns-in_err-put-clause-text
returns-in_err-put-clause-text c =
    let p = err_from_is_err_and c.from_residual.result c.from_residual.ensures.1 in
    rw p.1 (front_before (codes ".code\n") _ _ _ c.in_err-put.ensures)

pub returns-clause-text : goal.returns-clause-text
returns-clause-text c = puts_after c.put_code.result (codes ".code\n") _ _ _ _ c.in_ok-put.ensures c.put_code.ensures.text
