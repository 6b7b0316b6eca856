use Rattle.std.proofs.Common.{◌≡◌, ◌≤◌, ◌+◌, ◌-◌, length, drop}
use Rattle.strand_base.specs.Text.{lines_of}
use Rattle.strand_asm.specs.Layout.{over_lines}
use Rattle.strand_asm.specs.Draft.{draft_of, drafted}
use Rattle.strand_asm.proofs.drafting.draft_of.Given as goal

abbrev pub invariant-loop-span : goal.invariant-loop-span
invariant-loop-span l =
    (l.from ≤ length l.text) × (l.lines ≤ l.from)
    × (over_lines (drafted l.layout) (l.lines + 1) l.draft (lines_of (drop l.from l.text)) ≡ draft_of l.layout l.text)

abbrev pub decreases-loop-span : goal.decreases-loop-span
decreases-loop-span l = length l.text - l.from
