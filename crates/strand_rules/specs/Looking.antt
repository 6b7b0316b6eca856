-- The rules for an event that isn't in the trace yet, and what the rules find in the trace for an event of it.
use Rattle.std.specs.Prelude.{ℕ, suc, ◌+◌, ◌%◌, Bool, true, false, ◌&&◌, ◌||◌, not, ◌==◌, List, [], ◌∷◌, ◌++◌, length, slice_set, Some, None, if◌then◌else◌}
use Rattle.std.specs.declared.option.Option.{Option}
use Rattle.strand_inputs.specs.declared.mode.Mode.{Mode}
use Rattle.strand_inputs.specs.declared.mode.Mode.TheVariants.{Strict, Epoch, Strand}
use Rattle.strand_base.specs.Counting.{any_below, count_below}
use Rattle.strand_events.specs.declared.event.Event.{Event}
use Rattle.strand_events.specs.Trace.{is_store, is_access, is_persist, is_new_strand, core_of, word_of, core_at, word_at, event_is, core_event_is, strand_number, same_strand}
use Rattle.strand_events.specs.Order.{Set}
use Rattle.strand_rules.specs.Cycle.{some_wait}

-- the strand number of the core's next event
abbrev pub next_strand : Mode → List Event → ℕ → ℕ
next_strand Strict t n = 0
next_strand Epoch t n = 0
next_strand Strand t n = count_below (length t) (core_event_is is_new_strand n t)

-- event a is of the strand of the next event e
abbrev pub is_in_next : Mode → List Event → Event → ℕ → Bool
is_in_next mode t e a = (core_at t a == core_of e) && (strand_number mode t a == next_strand mode t (core_of e))

-- access a is of another strand than the next event e, and conflicts with it
abbrev pub opposes : Mode → List Event → Event → ℕ → Bool
opposes mode t e a = event_is is_access t a && is_access e && (word_at t a == word_of e) && (event_is is_store t a || is_store e) && not (is_in_next mode t e a)

-- such an access, and a persist of its core up to there isn't durable
abbrev pub holds_up : Mode → List Event → Set → Event → ℕ → Bool
holds_up mode t durable e a = opposes mode t e a && some_wait t durable (core_at t a) (a + 1)

abbrev pub must_stall : Mode → List Event → Set → Event → Bool
must_stall mode t durable e = any_below (length t) (holds_up mode t durable e)

-- event p is a persist of core n in the strand of event k
abbrev pub is_of_strand : Mode → List Event → ℕ → ℕ → ℕ → Bool
is_of_strand mode t n k p = core_event_is is_persist n t p && same_strand mode t p k

-- such a persist that isn't durable
abbrev pub is_open : Mode → List Event → Set → ℕ → ℕ → ℕ → Bool
is_open mode t durable n k p = is_of_strand mode t n k p && not (durable p)

-- such a persist, from the oldest one that isn't durable on
abbrev pub is_in_use : Mode → List Event → Set → ℕ → ℕ → ℕ → Bool
is_in_use mode t durable n k p = is_of_strand mode t n k p && any_below (suc p) (is_open mode t durable n k)

-- event p is a persist of core n in buffer b of so many that isn't durable
abbrev pub is_busy : Mode → ℕ → List Event → Set → ℕ → ℕ → ℕ → Bool
is_busy mode buffers t durable n b p = core_event_is is_persist n t p && (strand_number mode t p % buffers == b) && not (durable p)

-- a new persist has no mark among the persists
abbrev pub persists_unmarked : List Bool → Option Event → List Bool
persists_unmarked marks None = marks
persists_unmarked marks (Some e) = if is_persist e then marks ++ false ∷ [] else marks

-- the marks with one more set, if any
abbrev pub marked_at : List Bool → Option ℕ → List Bool
marked_at marks None = marks
marked_at marks (Some k) = slice_set marks k true
