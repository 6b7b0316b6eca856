use Rattle.std.proofs.Common.{◌≡◌, length, map}
use Rattle.strand_asm_lines.specs.Table.{named_among}
use Rattle.strand_asm_lines.proofs.table.named_among.Given as goal

abbrev pub invariant-loop-rows : goal.invariant-loop-rows
invariant-loop-rows l = named_among (map (λ row. (row.0.now, row.1)) l.rows) l.word ≡ named_among (map (λ row. (row.0.now, row.1)) l.initial.rows) l.word

abbrev pub decreases-loop-rows : goal.decreases-loop-rows
decreases-loop-rows l = length l.rows
