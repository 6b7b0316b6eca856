-- What the buffers of a core hold for a state.
use Rattle.std.specs.Prelude.{ℕ, Bool, ◌&&◌, ◌==◌, List, length, map, if◌then◌else◌}
use Rattle.strand_base.specs.Counting.{count_below, list_below}
use Rattle.strand_inputs.specs.Settings.{Settings}
use Rattle.strand_events.specs.Trace.{is_new_strand, word_at, value_at, event_is, strand_number, epoch, persist_number}
use Rattle.strand_events.specs.Order.{set_of}
use Rattle.strand_rules.specs.Cycle.{State, is_dispatched, is_accepted, buffer_of}
use Rattle.strand_buffer.specs.declared.entry.Entry.{Entry}
use Rattle.strand_buffer.specs.declared.entry.Stage.{Stage}
use Rattle.strand_buffer.specs.declared.entry.Stage.TheVariants.{Buffered, Sent, Released}
use Rattle.strand_buffer.specs.Entries.{from_open}
use Rattle.strand_tags.specs.Traces.{noted_wait}

-- event p is a dispatched persist of core n whose strand is that of buffer b
abbrev pub is_of_buffer : Settings → State → ℕ → ℕ → ℕ → Bool
is_of_buffer g s n b p = is_accepted g s n p && (buffer_of g (strand_number g.mode s.now.trace p) == b)

-- these persists in trace order, from the oldest that isn't durable on
abbrev pub listed : Settings → State → ℕ → ℕ → List ℕ
listed g s n b = from_open (set_of s.durable) (list_below (length s.now.trace) (is_of_buffer g s n b))

-- how far a dispatched persist has come: it is durable, buffered or else in flight
abbrev pub stage_of : State → ℕ → Stage
stage_of s p = if set_of s.durable p then Released else if set_of s.buffered p then Buffered else Sent

abbrev pub entry_of : Settings → State → ℕ → Entry
entry_of g s p = record { number = persist_number s.now.trace p; word = word_at s.now.trace p; value = value_at s.now.trace p; epoch = epoch g.mode s.now.trace p; wait = noted_wait g.conflict g.mode s.now.trace p; stage = stage_of s p }

-- the list of buffer b of core n
abbrev pub entries : Settings → State → ℕ → ℕ → List Entry
entries g s n b = map (entry_of g s) (listed g s n b)

-- the current strand number of core n's buffers: how many begins of strands it has dispatched
abbrev pub begun : Settings → State → ℕ → ℕ
begun g s n = count_below (length s.now.trace) (λ k. is_dispatched g s n k && event_is is_new_strand s.now.trace k)
