-- Serves clause edges of Graph::edges: the last events of a core tell the strand of its next event, and its gate.
use Rattle.std.proofs.Common.{◌≡◌, ℕ, ◌+◌, ◌<◌, false, ◌||◌, ◌&&◌, inl, inr, List, refl, sym, ap, ◌∙◌, arith}
use Rattle.std.specs.Prelude.{nat_le, max, ◌==◌}
use Rattle.std.proofs.lemmas.Bool.{and_parts, and_from, or_cases, or_left, or_right, eq-eqb, eqb-true}
use Rattle.strand_inputs.specs.declared.mode.Mode.{Mode}
use Rattle.strand_inputs.specs.declared.mode.Mode.TheVariants.{Strict, Epoch, Strand}
use Rattle.strand_base.specs.Counting.{count_below}
use Rattle.strand_events.specs.declared.event.Event.{Event}
use Rattle.strand_events.specs.Trace.{is_barrier, is_join, is_new_strand, core_at, event_is, core_event_is, strand_number, same_strand}
use Rattle.strand_events.proofs.PersistOrder.Epochs.{excludes, barrier_begins_none, strand_parts, strand_from}
use Rattle.strand_events.proofs.TestLaws.{same_from}
use Rattle.strand_order.specs.Graph.{gates}
use Rattle.strand_order.specs.Lasts.{since_below, from_floor}
use Rattle.strand_order.specs.CoreLasts.{core_lasts, begin_in, gate_in}
use Rattle.strand_order.proofs.Edges.LastEvent.{le_yes, since_agree, since_floor, since_either, same_count}

module _ (t : List Event) (j : ℕ) where
  -- an event of j's core that begins no strand is of j's strand exactly where none began after it
  pub strand_by_begin : (mode : Mode) (i : ℕ) → i < j → core_at t i ≡ core_at t j → event_is is_new_strand t i ≡ false → same_strand mode t i j ≡ nat_le (begin_in mode (core_lasts t (core_at t j) j)) (i + 1)
  strand_by_begin Strict i lt c none = strand_from Strict t i j c refl ∙ sym (le_yes 0 (i + 1) (omega arith))
  strand_by_begin Epoch i lt c none = strand_from Epoch t i j c refl ∙ sym (le_yes 0 (i + 1) (omega arith))
  strand_by_begin Strand i lt c none =
      let test = core_event_is is_new_strand (core_at t j) t in
      let number : strand_number Strand t i ≡ count_below i test = ap (λ x. count_below i (core_event_is is_new_strand x t)) c in
      let at_i : test i ≡ false = rw none refl in
      rw (eq-eqb (core_at t i) (core_at t j) c, number) (same_count j i test lt at_i)

  -- the gate by the core's last events
  pub gate_is : (mode : Mode) → since_below j (gates mode t j) ≡ gate_in mode (core_lasts t (core_at t j) j)
  gate_is mode =
      let core = core_at t j in
      let floor = begin_in mode (core_lasts t core j) in
      let joins = core_event_is is_join core t in
      let barriers = core_event_is is_barrier core t in
      let same : (k : ℕ) → k < j → gates mode t j k ≡ (joins k || from_floor barriers floor k) = λ k lt. same_from (gates mode t j k) (joins k || from_floor barriers floor k) (λ h. elim (or_cases (event_is is_barrier t k && same_strand mode t k j) (event_is is_join t k && (core_at t k == core_at t j)) h) [
        | inr join ↦ or_left (joins k) (from_floor barriers floor k) join
        | inl bar ↦
            let parts = and_parts (event_is is_barrier t k) (same_strand mode t k j) bar in
            let c = (strand_parts mode t k j parts.1).0 in
            let near = sym (strand_by_begin mode k lt c (excludes is_barrier is_new_strand barrier_begins_none t k parts.0)) ∙ parts.1 in
            or_right (joins k) (from_floor barriers floor k) (and_from (barriers k) (nat_le floor (k + 1)) (and_from (event_is is_barrier t k) (core_at t k == core) parts.0 (eq-eqb (core_at t k) core c)) near)
      ]) (λ h. elim (or_cases (joins k) (from_floor barriers floor k) h) [
        | inl join ↦ or_right (event_is is_barrier t k && same_strand mode t k j) (event_is is_join t k && (core_at t k == core_at t j)) join
        | inr bar ↦
            let parts = and_parts (barriers k) (nat_le floor (k + 1)) bar in
            let one = and_parts (event_is is_barrier t k) (core_at t k == core) parts.0 in
            let c = eqb-true (core_at t k) core one.1 in
            let near = strand_by_begin mode k lt c (excludes is_barrier is_new_strand barrier_begins_none t k one.0) ∙ parts.1 in
            or_left (event_is is_barrier t k && same_strand mode t k j) (event_is is_join t k && (core_at t k == core_at t j)) (and_from (event_is is_barrier t k) (same_strand mode t k j) one.0 near)
      ]) in
      since_agree j (gates mode t j) (λ k. joins k || from_floor barriers floor k) same ∙ since_either j joins (from_floor barriers floor) ∙ ap (max (since_below j joins)) (since_floor j barriers floor)
