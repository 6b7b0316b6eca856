use Rattle.std.proofs.Common.{◌≡◌, ◌≤◌, ◌+◌, ◌-◌, ◌*◌, length, drop}
use Rattle.strand_base.specs.Text.{lines_of}
use Rattle.strand_asm.specs.Layout.{IsAtMost, laid, layout_of, over_lines}
use Rattle.strand_asm.proofs.laying.layout_of.Given as goal

abbrev pub invariant-loop-span : goal.invariant-loop-span
invariant-loop-span l =
    (l.from ≤ length l.text) × (l.lines ≤ l.from) × IsAtMost (4294967295 * l.lines) l.layout
    × (over_lines laid (l.lines + 1) l.layout (lines_of (drop l.from l.text)) ≡ layout_of l.text)

abbrev pub decreases-loop-span : goal.decreases-loop-span
decreases-loop-span l = length l.text - l.from
