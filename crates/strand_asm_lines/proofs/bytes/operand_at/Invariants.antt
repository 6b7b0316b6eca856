use Rattle.std.proofs.Common.{◌≡◌, drop}
use Rattle.strand_asm_lines.specs.Bytes.{pieces}
use Rattle.strand_asm_lines.proofs.bytes.operand_at.Given as goal

abbrev pub invariant-loop : goal.invariant-loop
invariant-loop l = drop l.counter (pieces 44 l.text) ≡ pieces 44 l.rest
