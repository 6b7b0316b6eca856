-- What a core has made so far, by which strands and epochs are numbered.
use Rattle.std.specs.Prelude.{◌≡◌, ℕ, ◌+◌, ◌-◌, ◌^◌, ◌<◌, Bool, ◌&&◌, ◌==◌, List, length, slice_index_or, if◌then◌else◌}
use Rattle.strand_base.specs.declared.limits.TheConstants.{CORE_ROOM}
use Rattle.strand_base.specs.Counting.{count_below}
use Rattle.strand_inputs.specs.declared.mode.Mode.{Mode}
use Rattle.strand_inputs.specs.declared.mode.Mode.TheVariants.{Strict, Epoch, Strand}
use Rattle.strand_events.specs.declared.event.Event.{Event}
use Rattle.strand_events.specs.declared.event_counts.EventCounts.{EventCounts}
use Rattle.strand_events.specs.Trace.{is_access, is_new_strand, is_barrier_or_join, core_at, core_event_is}

-- how many events of the core below n pass the test
abbrev pub core_count : (Event → Bool) → ℕ → List Event → ℕ → ℕ
core_count test core t n = count_below n (core_event_is test core t)

-- event k is a barrier or a join of the core, in the strand that is open before event n
abbrev pub is_border : ℕ → List Event → ℕ → ℕ → Bool
is_border core t n k = core_event_is is_barrier_or_join core t k && (core_count is_new_strand core t k == core_count is_new_strand core t n)

-- what the core has made before event n
abbrev pub counts_below : List Event → ℕ → ℕ → EventCounts
counts_below t core n = record {
  accesses = core_count is_access core t n;
  strands = core_count is_new_strand core t n;
  borders = core_count is_barrier_or_join core t n;
  strand_borders = count_below n (is_border core t n);
}

-- one more event of the core
abbrev pub counts_after : Event → EventCounts → EventCounts
counts_after e m = record {
  accesses = if is_access e then m.accesses + 1 else m.accesses;
  strands = if is_new_strand e then m.strands + 1 else m.strands;
  borders = if is_barrier_or_join e then m.borders + 1 else m.borders;
  strand_borders = if is_new_strand e then 0 else (if is_barrier_or_join e then m.strand_borders + 1 else m.strand_borders);
}

-- each count can rise by one
abbrev pub CanRise : EventCounts → Type 0
CanRise m = (m.accesses < 2 ^ 32 - 1) × (m.strands < 2 ^ 32 - 1) × (m.borders < 2 ^ 32 - 1) × (m.strand_borders < 2 ^ 32 - 1)

abbrev pub nothing_made : EventCounts
nothing_made = record { accesses = 0; strands = 0; borders = 0; strand_borders = 0 }

-- the strand and the epoch of an event, by what its core has made before it
abbrev pub strand_in : Mode → EventCounts → ℕ
strand_in Strict m = 0
strand_in Epoch m = 0
strand_in Strand m = m.strands

abbrev pub epoch_in : Mode → EventCounts → ℕ
epoch_in Strict m = m.accesses
epoch_in Epoch m = m.borders
epoch_in Strand m = m.strand_borders

-- each event's counts are what its core has made before it
abbrev pub AreEventCounts : List Event → List EventCounts → Type 0
AreEventCounts t counts = (length counts ≡ length t) × ((i : ℕ) → i < length t → slice_index_or counts i nothing_made ≡ counts_below t (core_at t i) i)

-- each core's counts are what it has made so far
abbrev pub AreLatest : List Event → List EventCounts → Type 0
AreLatest t cores = (core : ℕ) → core < CORE_ROOM → slice_index_or cores core nothing_made ≡ counts_below t core (length t)
