use Rattle.strand_asm_lines.proofs.Registers.{body_has}
use Rattle.strand_asm_lines.proofs.reading.read_line.Goals as goal

pub returns-clause-registers : goal.returns-clause-registers
returns-clause-registers c = body_has _ _ c.in_ok-body.body c.in_ok-body.ensures
