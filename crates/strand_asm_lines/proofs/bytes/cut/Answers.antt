use Rattle.std.proofs.Common.{add-one}
use Rattle.strand_asm_lines.proofs.Pieces.{pieces_at, pieces_none}
use Rattle.strand_asm_lines.proofs.bytes.cut.Goals as goal

pub returns-in-Some-clause-pieces : goal.returns-in-Some-clause-pieces
returns-in-Some-clause-pieces c = rw (c.split_at.ensures.front, c.split_at-in-Some.ensures.back, add-one) (pieces_at c.args.separator c.args.text.now c.in-Some.at c.in-Some.ensures)

pub returns-in-None-clause-pieces : goal.returns-in-None-clause-pieces
returns-in-None-clause-pieces c = pieces_none c.args.separator c.args.text.now c.in-None.ensures
