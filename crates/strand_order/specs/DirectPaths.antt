-- Paths past barriers and joins alone.
use Rattle.std.specs.Prelude.{◌≡◌, ℕ, true, List}
use Rattle.std.specs.List.{AllByRecursion}
use Rattle.strand_events.specs.declared.event.Event.{Event}
use Rattle.strand_events.specs.Trace.{event_is, is_barrier_or_join}

-- each of the events is a barrier or a join
abbrev pub AreBarriersOrJoins : List Event → List ℕ → Type 0
AreBarriersOrJoins t xs = AllByRecursion (λ x. event_is is_barrier_or_join t x ≡ true) xs
