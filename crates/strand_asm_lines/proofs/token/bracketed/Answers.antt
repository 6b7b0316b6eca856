use Rattle.std.proofs.Common.{◌≡◌, ◌<◌, length, arith, sym, refl}
use Rattle.std.proofs.lemmas.Bool.Decides.{nat_tests}
use Rattle.strand_asm_lines.proofs.Pieces.{opened_more, closed_more, closed_end, length_pieces}
use Rattle.strand_asm_lines.proofs.token.bracketed.Goals as goal

pub returns-then-not-is_empty : goal.returns-then-not-is_empty
returns-then-not-is_empty c =
    let some : 0 < length c.in_ok-front.end.now = grind (arith, nat_tests) in
    rw c.in_ok-front.ensures.pieces (sym (closed_more c.in_ok-front.front.now c.in_ok-front.end.now some))

pub returns-in-Some : goal.returns-in-Some
returns-in-Some c =
    let none : length c.in_ok-front.end.now ≡ 0 = grind (arith, nat_tests) in
    rw (c.in_ok-front.ensures.pieces, closed_end c.in_ok-front.front.now c.in_ok-front.end.now none, c.in_ok-offset.ensures.pieces, c.in-Some.ensures.pieces)
    (sym (opened_more _ _ _ (omega (arith, length_pieces 40 c.in-Some.field-0.1.now))))

pub returns-in-None : goal.returns-in-None
returns-in-None c =
    let none : length c.in_ok-front.end.now ≡ 0 = grind (arith, nat_tests) in
    rw (c.in_ok-front.ensures.pieces, closed_end c.in_ok-front.front.now c.in_ok-front.end.now none, c.in_ok-offset.ensures.pieces, c.in-None.ensures.pieces) refl
