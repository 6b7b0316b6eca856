-- A set of persists as the list of their numbers.
use Rattle.std.specs.Prelude.{ℕ, List, length, slice_index}
use Rattle.strand_base.specs.Counting.{list_below}
use Rattle.strand_events.specs.declared.event.Event.{Event}
use Rattle.strand_events.specs.Trace.{persists_of}
use Rattle.strand_events.specs.Order.{Set}

-- the numbers of the persists that the set holds, ascending
abbrev pub numbers_of : List Event → Set → List ℕ
numbers_of t set = list_below (length (persists_of t)) (λ p. set (slice_index (persists_of t) p))
