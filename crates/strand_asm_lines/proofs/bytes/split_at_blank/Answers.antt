use Rattle.std.proofs.Common.{◌∙◌}
use Rattle.strand_base.specs.Text.{is_blank}
use Rattle.strand_asm_lines.proofs.Pieces.{from_at, from_none}
use Rattle.strand_asm_lines.proofs.bytes.split_at_blank.Goals as goal

pub returns-in-Some-clause-rest : goal.returns-in-Some-clause-rest
returns-in-Some-clause-rest c = c.split_at.ensures.back ∙ from_at is_blank c.args.text.now c.in-Some.at c.in-Some.ensures

pub returns-in-None-clause-rest : goal.returns-in-None-clause-rest
returns-in-None-clause-rest c = from_none is_blank c.args.text.now c.in-None.ensures
