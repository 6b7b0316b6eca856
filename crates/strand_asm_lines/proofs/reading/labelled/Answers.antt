use Rattle.std.proofs.Common.{arith, sym}
use Rattle.strand_asm_lines.proofs.Pieces.{length_pieces}
use Rattle.strand_asm_lines.proofs.LineParts.{labelled_more}
use Rattle.strand_asm_lines.proofs.reading.labelled.Goals as goal

pub returns-in-Some-cut-clause-parts : goal.returns-in-Some-cut-clause-parts
returns-in-Some-cut-clause-parts c =
    rw (c.in-Some.ensures.pieces, c.in-Some-cut.ensures.pieces) (sym (labelled_more _ _ _ (omega (arith, length_pieces 58 c.in-Some-cut.field-0.1.now))))
