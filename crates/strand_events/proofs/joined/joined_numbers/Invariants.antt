use Rattle.std.proofs.Common.{◌≡◌}
use Rattle.strand_base.specs.Counting.{list_below}
use Rattle.std.specs.Prelude.{slice_index}
use Rattle.strand_events.specs.Order.{is_joined}
use Rattle.strand_events.specs.Trace.{persists_of}
use Rattle.strand_events.proofs.joined.joined_numbers.Given as goal

abbrev pub invariant-loop-number : goal.invariant-loop-number
invariant-loop-number l = l.numbers ≡ list_below l.number (λ p. is_joined l.events (slice_index (persists_of l.events) p))
