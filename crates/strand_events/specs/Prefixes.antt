-- How many persists a core made, and how many of its first ones are all durable.
use Rattle.std.specs.Prelude.{ℕ, suc, Bool, true, false, List, [], ◌∷◌, map, length}
use Rattle.strand_base.specs.Counting.{count_below, list_below}
use Rattle.strand_events.specs.declared.event.Event.{Event}
use Rattle.strand_events.specs.Trace.{is_persist, core_event_is}
use Rattle.strand_events.specs.Order.{Set}

-- how many persists the core made among the events below an end
abbrev pub made_below : List Event → ℕ → ℕ → ℕ
made_below t core end = count_below end (core_event_is is_persist core t)

-- how many of the marks are set before the first that isn't
abbrev pub leading : List Bool → ℕ
leading [] = 0
leading (true ∷ marks) = suc (leading marks)
leading (false ∷ marks) = 0

-- the persists of the core, by their event numbers, and whether each of them is durable
abbrev pub core_persists : List Event → ℕ → List ℕ
core_persists t core = list_below (length t) (core_event_is is_persist core t)

abbrev pub core_marks : List Event → Set → ℕ → List Bool
core_marks t durable core = map durable (core_persists t core)

-- how many of the core's first persists are all durable
abbrev pub durable_prefix : List Event → Set → ℕ → ℕ
durable_prefix t durable core = leading (core_marks t durable core)
