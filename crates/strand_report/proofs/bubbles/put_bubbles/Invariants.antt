use Rattle.std.proofs.Common.{◌≡◌, ◌++◌, take}
use Rattle.strand_report.specs.Bubbles.{bubble_lines}
use Rattle.strand_report.proofs.bubbles.put_bubbles.Given as goal

abbrev pub invariant-loop-bubble : goal.invariant-loop-bubble
invariant-loop-bubble l = l.into.items ≡ l.fn.into.items ++ bubble_lines (take l.bubble-index l.bubbles)
