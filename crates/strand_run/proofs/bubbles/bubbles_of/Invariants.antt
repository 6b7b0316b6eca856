use Rattle.std.proofs.Common.{◌≡◌, take}
use Rattle.strand_rules.specs.Bubbles.{bubbles_of}
use Rattle.strand_run.proofs.bubbles.bubbles_of.Given as goal

abbrev pub invariant-loop-i : goal.invariant-loop-i
invariant-loop-i l = l.bubbles.items ≡ bubbles_of (take l.i l.turns)
