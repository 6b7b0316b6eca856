use Rattle.std.proofs.Common.{◌≡◌, length}
use Rattle.strand_asm_lines.specs.Bytes.{pieces, some_empty}
use Rattle.strand_asm_lines.proofs.bytes.has_empty.Given as goal

abbrev pub invariant-loop-operand : goal.invariant-loop-operand
invariant-loop-operand l = some_empty (pieces 44 l.rest) ≡ some_empty (pieces 44 l.text)

abbrev pub decreases-loop-operand : goal.decreases-loop-operand
decreases-loop-operand l = length l.rest
