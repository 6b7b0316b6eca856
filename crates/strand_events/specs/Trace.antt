-- A trace is the list of events, the oldest first. An event is named by its number in it.
use Rattle.std.specs.Prelude.{ℕ, Bool, true, false, ◌&&◌, ◌||◌, ◌==◌, List, Option, Some, None, slice_get, length}
use Rattle.strand_inputs.specs.declared.mode.Mode.{Mode}
use Rattle.strand_inputs.specs.declared.mode.Mode.TheVariants.{Strict, Epoch, Strand}
use Rattle.strand_events.specs.declared.event.Event.{Event}
use Rattle.strand_events.specs.declared.event.Event.TheVariants.{Load, Store, Barrier, NewStrand, Join, Out}
use Rattle.strand_base.specs.Counting.{count_below, list_below}

abbrev pub core_of : Event → ℕ
core_of (Load core word) = core
core_of (Store persist core word value) = core
core_of (Barrier core) = core
core_of (NewStrand core) = core
core_of (Join core) = core
core_of (Out core value) = core

-- the word that an access touches
abbrev pub word_of : Event → ℕ
word_of (Load core word) = word
word_of (Store persist core word value) = word
word_of _ = 0

-- the value that a store leaves in its word
abbrev pub value_of : Event → ℕ
value_of (Store persist core word value) = value
value_of _ = 0

abbrev pub is_store : Event → Bool
is_store (Store persist core word value) = true
is_store _ = false

abbrev pub is_access : Event → Bool
is_access (Load core word) = true
is_access (Store persist core word value) = true
is_access _ = false

abbrev pub is_persist : Event → Bool
is_persist (Store persist core word value) = persist
is_persist _ = false

abbrev pub is_barrier : Event → Bool
is_barrier (Barrier core) = true
is_barrier _ = false

abbrev pub is_new_strand : Event → Bool
is_new_strand (NewStrand core) = true
is_new_strand _ = false

abbrev pub is_join : Event → Bool
is_join (Join core) = true
is_join _ = false

abbrev pub core_in : Option Event → ℕ
core_in None = 0
core_in (Some e) = core_of e

abbrev pub word_in : Option Event → ℕ
word_in None = 0
word_in (Some e) = word_of e

abbrev pub value_in : Option Event → ℕ
value_in None = 0
value_in (Some e) = value_of e

abbrev pub passes : (Event → Bool) → Option Event → Bool
passes test None = false
passes test (Some e) = test e

-- the core and the word of event i
abbrev pub core_at : List Event → ℕ → ℕ
core_at t i = core_in (slice_get t i)

abbrev pub word_at : List Event → ℕ → ℕ
word_at t i = word_in (slice_get t i)

abbrev pub value_at : List Event → ℕ → ℕ
value_at t i = value_in (slice_get t i)

-- event i is there and passes the test
abbrev pub event_is : (Event → Bool) → List Event → ℕ → Bool
event_is test t i = passes test (slice_get t i)

-- the event numbers of the persists, ascending: a persist's number is its place
abbrev pub persists_of : List Event → List ℕ
persists_of t = list_below (length t) (event_is is_persist t)

-- how many persists come before event p: its number among them, if it is one
abbrev pub persist_number : List Event → ℕ → ℕ
persist_number t p = count_below p (event_is is_persist t)

-- event k is there, is of the core, and passes the test
abbrev pub core_event_is : (Event → Bool) → ℕ → List Event → ℕ → Bool
core_event_is test core t k = event_is test t k && (core_at t k == core)

-- the number of event i's strand among its core's strands
abbrev pub strand_number : Mode → List Event → ℕ → ℕ
strand_number Strict t i = 0
strand_number Epoch t i = 0
strand_number Strand t i = count_below i (core_event_is is_new_strand (core_at t i) t)

-- two events are of one strand
abbrev pub same_strand : Mode → List Event → ℕ → ℕ → Bool
same_strand mode t i j = (core_at t i == core_at t j) && (strand_number mode t i == strand_number mode t j)

abbrev pub is_barrier_or_join : Event → Bool
is_barrier_or_join e = is_barrier e || is_join e

-- the number of event i's epoch within its strand
abbrev pub epoch : Mode → List Event → ℕ → ℕ
epoch Strict t i = count_below i (core_event_is is_access (core_at t i) t)
epoch Epoch t i = count_below i (λ k. event_is is_barrier_or_join t k && same_strand Epoch t k i)
epoch Strand t i = count_below i (λ k. event_is is_barrier_or_join t k && same_strand Strand t k i)
