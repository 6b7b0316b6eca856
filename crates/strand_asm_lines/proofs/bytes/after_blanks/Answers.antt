use Rattle.std.proofs.Common.{not, ◌∙◌}
use Rattle.strand_base.specs.Text.{is_blank}
use Rattle.strand_asm_lines.proofs.Pieces.{from_at, from_none}
use Rattle.strand_asm_lines.proofs.bytes.after_blanks.Goals as goal

pub returns-in-Some : goal.returns-in-Some
returns-in-Some c = c.split_at.ensures.back ∙ from_at (λ b. not (is_blank b)) c.args.text.now c.in-Some.at c.in-Some.ensures

pub returns-in-None : goal.returns-in-None
returns-in-None c = from_none (λ b. not (is_blank b)) c.args.text.now c.in-None.ensures
