use Rattle.std.proofs.Common.{◌≡◌}
use Rattle.std.specs.Prelude.{nat_lt, slice_index}
use Rattle.strand_base.specs.Counting.{any_below}
use Rattle.strand_events.specs.Waits.{wait}
use Rattle.strand_rules.proofs.past.Past.is_met.Given as goal

abbrev pub invariant-loop-c : goal.invariant-loop-c
invariant-loop-c l = l.over ≡ any_below l.c (λ c. nat_lt (slice_index l.prefixes c) (wait l.self.config.mode l.self.state.now.trace c l.x))
