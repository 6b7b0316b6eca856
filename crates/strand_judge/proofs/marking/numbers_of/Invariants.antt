use Rattle.std.proofs.Common.{◌≡◌, slice_index}
use Rattle.strand_base.specs.Counting.{list_below}
use Rattle.strand_events.specs.Order.{set_of}
use Rattle.strand_judge.proofs.marking.numbers_of.Given as goal

abbrev pub invariant-loop-p : goal.invariant-loop-p
invariant-loop-p l = l.numbers ≡ list_below l.p (λ p. set_of l.marks (slice_index l.persists p))
