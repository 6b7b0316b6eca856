-- Serves judge, check_path and longest of the crates above: both ends of an edge are events of the trace.
use Rattle.std.proofs.Common.{◌≡◌, ℕ, ◌<◌, true, inl, inr, List, length}
use Rattle.std.specs.Prelude.{◌&&◌, ◌||◌, not, nat_lt}
use Rattle.std.proofs.lemmas.Bool.{and_parts, or_cases}
use Rattle.strand_inputs.specs.declared.mode.Mode.{Mode}
use Rattle.strand_inputs.specs.declared.mode.Mode.TheVariants.{Strict, Epoch, Strand}
use Rattle.strand_events.specs.declared.event.Event.{Event}
use Rattle.strand_events.specs.Trace.{event_is, is_access, is_barrier, is_join, core_at, word_at, core_event_is}
use Rattle.strand_events.proofs.EventWithin.{event_within}
use Rattle.strand_events.proofs.PersistOrder.Epochs.{conflict_parts}
use Rattle.strand_events.specs.Order.{conflicts, stands_between}
use Rattle.strand_order.specs.Graph.{is_edge, word_edge, core_edge, gate_edge, join_edge, is_gate, since_gate, any_between, stores_word, access_or_join, drained_by}

gate_within : (mode : Mode) (t : List Event) (i j : ℕ) → gate_edge mode t i j ≡ true → j < length t
gate_within mode t i j h = elim (or_cases (((event_is is_access t j || event_is is_barrier t j) && is_gate mode t i j) || (event_is is_barrier t j && since_gate mode t i j)) (join_edge t i j) h) [
  | inl f ↦ elim (or_cases ((event_is is_access t j || event_is is_barrier t j) && is_gate mode t i j) (event_is is_barrier t j && since_gate mode t i j) f) [
    | inl g ↦ elim (or_cases (event_is is_access t j) (event_is is_barrier t j) (and_parts (event_is is_access t j || event_is is_barrier t j) (is_gate mode t i j) g).0) [
      | inl a ↦ event_within is_access t j a
      | inr b ↦ event_within is_barrier t j b
    ]
    | inr g ↦ event_within is_barrier t j (and_parts (event_is is_barrier t j) (since_gate mode t i j) g).0
  ]
  | inr f ↦
      let one = and_parts (event_is is_join t j && core_event_is drained_by (core_at t j) t i) (not (stands_between is_join (core_at t j) t i j)) f in
      event_within is_join t j (and_parts (event_is is_join t j) (core_event_is drained_by (core_at t j) t i) one.0).0
]

core_within : (mode : Mode) (t : List Event) (i j : ℕ) → core_edge mode t i j ≡ true → j < length t
core_within Strict t i j h =
    let one = and_parts (event_is access_or_join t j && core_event_is access_or_join (core_at t j) t i) (not (stands_between access_or_join (core_at t j) t i j)) h in
    event_within access_or_join t j (and_parts (event_is access_or_join t j) (core_event_is access_or_join (core_at t j) t i) one.0).0
core_within Epoch t i j h = gate_within Epoch t i j h
core_within Strand t i j h = gate_within Strand t i j h

pub edge_within : (mode : Mode) (t : List Event) (i j : ℕ) → is_edge mode t i j ≡ true → j < length t
edge_within mode t i j h = elim (or_cases (word_edge t i j) (core_edge mode t i j) (and_parts (nat_lt i j) (word_edge t i j || core_edge mode t i j) h).1) [
  | inl word ↦ event_within is_access t j (conflict_parts t i j (and_parts (conflicts t i j) (not (any_between i j (stores_word t (word_at t j)))) word).0).1
  | inr core ↦ core_within mode t i j core
]
