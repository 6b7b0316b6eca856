use Rattle.std.proofs.Common.{◌≡◌}
use Rattle.strand_base.specs.Counting.{any_below}
use Rattle.strand_rules.specs.Cycle.{has_word_of}
use Rattle.strand_rules.proofs.pipeline.Pipeline.older_waits.Given as goal

abbrev pub invariant-loop-i : goal.invariant-loop-i
invariant-loop-i l = l.found ≡ any_below l.i (has_word_of l.self.state l.p)
