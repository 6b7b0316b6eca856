-- Where the edges to an event come from: a chain of events from a floor on, and one event more.
use Rattle.std.specs.Prelude.{◌≡◌, ℕ, suc, ◌<◌, Bool, true, ◌&&◌, ◌==◌, List, length, slice_index, max}
use Rattle.strand_inputs.specs.declared.mode.Mode.{Mode}
use Rattle.strand_inputs.specs.declared.mode.Mode.TheVariants.{Strict, Epoch, Strand}
use Rattle.strand_events.specs.declared.event.Event.{Event}
use Rattle.strand_events.specs.declared.event.Event.TheVariants.{Load, Store, Barrier, NewStrand, Join, Out}
use Rattle.strand_events.specs.Trace.{is_access, core_at, word_at, event_is, core_event_is}
use Rattle.strand_order.specs.Graph.{stores_word, drained_by}
use Rattle.strand_order.specs.Lasts.{since_below}
use Rattle.strand_order.specs.declared.lasts.CoreLasts.{CoreLasts}
use Rattle.strand_order.specs.declared.lasts.WordLasts.{WordLasts}
use Rattle.strand_order.specs.declared.lasts.Sources.{Sources}
use Rattle.strand_order.specs.CoreLasts.{begin_in, gate_in}

-- event k is an access of the word
abbrev pub is_access_to : List Event → ℕ → ℕ → Bool
is_access_to t word k = event_is is_access t k && (word_at t k == word)

-- the last access of the word and the last store to it, below n
abbrev pub word_lasts : List Event → ℕ → ℕ → WordLasts
word_lasts t word n = record { access = since_below n (is_access_to t word); store = since_below n (stores_word t word) }

-- for each access, the access of its word before it
pub record AreWordLinks (t : List Event) (n : ℕ) (links : List ℕ) : Type 0 where
  pub long : length links ≡ n
  pub back : (i : ℕ) → i < n → event_is is_access t i ≡ true → slice_index links i ≡ since_below i (is_access_to t (word_at t i))

-- for each access, barrier and join, the one of its core before it
pub record AreCoreLinks (t : List Event) (n : ℕ) (links : List ℕ) : Type 0 where
  pub long : length links ≡ n
  pub back : (i : ℕ) → i < n → event_is drained_by t i ≡ true → slice_index links i ≡ since_below i (core_event_is drained_by (core_at t i) t)

abbrev pub no_sources : Sources
no_sources = record { last = 0; floor = 0; single = 0 }

-- the core's previous access or join under strict, else its gate
abbrev pub single_in : Mode → CoreLasts → ℕ
single_in Strict m = m.step
single_in Epoch m = gate_in Epoch m
single_in Strand m = gate_in Strand m

-- the core's events that a barrier or a join drains: those after its gate and in its strand, or from its last join on
abbrev pub barrier_sources : Mode → CoreLasts → Sources
barrier_sources Strict m = no_sources
barrier_sources Epoch m = record { last = m.drained; floor = suc (max (begin_in Epoch m) (gate_in Epoch m)); single = gate_in Epoch m }
barrier_sources Strand m = record { last = m.drained; floor = suc (max (begin_in Strand m) (gate_in Strand m)); single = gate_in Strand m }

abbrev pub join_sources : Mode → CoreLasts → Sources
join_sources Strict m = record { last = 0; floor = 0; single = m.step }
join_sources Epoch m = record { last = m.drained; floor = m.join; single = 0 }
join_sources Strand m = record { last = m.drained; floor = m.join; single = 0 }

-- by what its core and its word have seen
abbrev pub sources_of : Mode → Event → CoreLasts → WordLasts → Sources
sources_of mode (Load core word) m w = record { last = w.store; floor = w.store; single = single_in mode m }
sources_of mode (Store persist core word value) m w = record { last = w.access; floor = w.store; single = single_in mode m }
sources_of mode (Barrier core) m w = barrier_sources mode m
sources_of mode (Join core) m w = join_sources mode m
sources_of mode (NewStrand core) m w = no_sources
sources_of mode (Out core value) m w = no_sources
