-- The wait of an event that isn't in the trace yet, by looking back over the accesses and their waits.
use Rattle.std.specs.Prelude.{◌≡◌, ℕ, ◌+◌, ◌<◌, max, Bool, ◌&&◌, ◌||◌, not, ◌==◌, List, [], ◌∷◌, ◌++◌, length, slice_index, slice_index_or, Some, None, if◌then◌else◌}
use Rattle.std.specs.declared.option.Option.{Option}
use Rattle.strand_base.specs.declared.limits.TheConstants.{CORE_ROOM}
use Rattle.strand_inputs.specs.declared.conflict.Conflict.{Conflict}
use Rattle.strand_inputs.specs.declared.conflict.Conflict.TheVariants.{Stall, Tag}
use Rattle.strand_inputs.specs.declared.mode.Mode.{Mode}
use Rattle.strand_events.specs.declared.event.Event.{Event}
use Rattle.strand_events.specs.Trace.{is_store, is_access, is_barrier, is_new_strand, is_join, is_barrier_or_join, core_of, word_of, core_at, word_at, event_is}
use Rattle.strand_events.specs.Order.{Set, core_orders}
use Rattle.strand_events.specs.Prefixes.{made_below, durable_prefix}
use Rattle.strand_events.specs.Waits.{wait}
use Rattle.strand_rules.specs.Looking.{is_in_next}
use Rattle.strand_rules.specs.declared.waits.Kind.{Kind}
use Rattle.strand_rules.specs.declared.waits.Kind.TheVariants.{Border, Barrier, Begin, Join}

-- the event is of this kind
abbrev pub is_kind : Kind → Event → Bool
is_kind Border e = is_barrier_or_join e
is_kind Barrier e = is_barrier e
is_kind Begin e = is_new_strand e
is_kind Join e = is_join e

-- access a comes directly before the next event e
abbrev pub is_next : Mode → List Event → Event → ℕ → Bool
is_next mode t e a = event_is is_access t a && is_access e && (((word_at t a == word_of e) && (event_is is_store t a || is_store e)) || ((core_at t a == core_of e) && core_orders mode (core_of e) t a (length t)))

-- how many persists core c had made at or before its access a, where a is of another strand than the next event e
abbrev pub made_next : Mode → List Event → Event → ℕ → ℕ → ℕ
made_next mode t e c a = if (core_at t a == c) && not (is_in_next mode t e a) then made_below t c (a + 1) else 0

-- what access a hands on to the next event e
abbrev pub hands_next : Mode → List Event → Event → ℕ → ℕ → ℕ
hands_next mode t e c a = if is_next mode t e a then max (wait mode t c a) (made_next mode t e c a) else 0

-- the wait for core c that is kept of event a
abbrev pub kept_wait : List (List ℕ) → ℕ → ℕ → ℕ
kept_wait waits c a = slice_index (slice_index_or waits a []) c

-- the waits of all events are kept
abbrev pub AreWaits : Mode → List Event → List (List ℕ) → Type 0
AreWaits mode t waits = (length waits ≡ length t) × ((c a : ℕ) → c < CORE_ROOM → a < length t → kept_wait waits c a ≡ wait mode t c a)

-- they are kept under tag, and none under stall
abbrev pub AreKeptWaits : Conflict → Mode → List Event → List (List ℕ) → Type 0
AreKeptWaits Stall mode t waits = waits ≡ []
AreKeptWaits Tag mode t waits = AreWaits mode t waits

-- this is the wait of the next event e
abbrev pub IsWaitOf : Mode → List Event → Event → List ℕ → Type 0
IsWaitOf mode t e w = (c : ℕ) → c < CORE_ROOM → slice_index w c ≡ wait mode (t ++ e ∷ []) c (length t)

-- the wait of the next event under tag, and none under stall or where there is no event
abbrev pub IsNextWait : Conflict → Mode → List Event → Option Event → Option (List ℕ) → Type 0
IsNextWait Stall mode t event o = o ≡ None
IsNextWait Tag mode t None o = o ≡ None
IsNextWait Tag mode t (Some e) None = ⊥
IsNextWait Tag mode t (Some e) (Some w) = IsWaitOf mode t e w

-- the waits with one more, if there is one
abbrev pub waited : List (List ℕ) → Option (List ℕ) → List (List ℕ)
waited waits None = waits
waited waits (Some w) = waits ++ w ∷ []

-- for each core, how many of its first persists are all durable
abbrev pub ArePrefixes : List Event → Set → List ℕ → Type 0
ArePrefixes t durable prefixes = (c : ℕ) → c < CORE_ROOM → slice_index prefixes c ≡ durable_prefix t durable c
