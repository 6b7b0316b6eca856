-- Serves clause buffers of parts_are_kept: in a longer trace no strand uses more places than its ring has.
use Rattle.std.proofs.Common.{◌≡◌, ℕ, ◌+◌, ◌<◌, ◌≤◌, Bool, true, false, ◌&&◌, inl, inr, List, [], ◌∷◌, ◌++◌, length, refl, sym, ap, ◌∙◌, arith}
use Rattle.std.specs.Prelude.{Some, nat_lt, slice_index, ◌==◌, if◌then◌else◌}
use Rattle.std.proofs.lemmas.Bool.{cases_Bool, cases_lt, and_parts, both_ways, eq-eqb, ltb-true, false_from_ne_true}
use Rattle.strand_base.specs.Counting.{count_below, any_below}
use Rattle.strand_base.proofs.BelowBound.{any_false, any_true, count_agree}
use Rattle.strand_inputs.specs.Settings.{Settings}
use Rattle.strand_inputs.specs.declared.mode.Mode.{Mode}
use Rattle.strand_events.specs.declared.event.Event.{Event}
use Rattle.strand_events.specs.Trace.{is_persist, is_new_strand, core_at, event_is, core_event_is, strand_number, same_strand}
use Rattle.strand_events.specs.Order.{set_of}
use Rattle.strand_events.proofs.LongerTrace.{event_is_kept, core_event_kept, strand_kept}
use Rattle.strand_events.proofs.PersistOrder.Epochs.{strand_parts}
use Rattle.strand_rules.specs.declared.turn.Cause.TheVariants as causes
use Rattle.strand_rules.specs.declared.turn.Turn.TheVariants.{Done, Bubble}
use Rattle.strand_rules.specs.Cycle.{State, is_item, is_dispatched, is_accepted, is_of_ring, ring_use, buffer_of, buffer_busy, item_turn}
use Rattle.strand_rules.specs.Pipeline.{no_memory}
use Rattle.strand_rules.proofs.Marks.{held_more}
use Rattle.strand_rules.proofs.Order.Sets.Event.{new_or_old, items_kept, length_grown}
use Rattle.strand_rules.proofs.Turns.{if_done, so_not}
use Rattle.strand_rules.proofs.Buffers.RingUse.{uses_agree, uses_past, uses_none}

-- a state of these parts
abbrev pub state_of : List Event → List ℕ → List Bool → List ℕ → List Bool → State
state_of t dispatched buffered flight durable = record {
  now = record { cores = []; memory = no_memory; trace = t };
  retired = [];
  dispatched = dispatched;
  buffered = buffered;
  flight = flight;
  durable = durable;
}

-- a state as far as rings go
abbrev pub ringed : List Event → List ℕ → List Bool → State
ringed t dispatched durable = state_of t dispatched [] [] durable

abbrev pub RingsFit : Settings → List Event → List ℕ → List Bool → Type 0
RingsFit g t dispatched durable = (n k : ℕ) → ring_use g (ringed t dispatched durable) n k ≤ g.ring

-- events of one strand have the same events in theirs
same_alike : (mode : Mode) (t : List Event) (a b p : ℕ) → same_strand mode t a b ≡ true → same_strand mode t p b ≡ same_strand mode t p a
same_alike mode t a b p same = let parts = strand_parts mode t a b same in
    cc (ap (λ c. core_at t p == c) (sym parts.0), ap (λ n. strand_number mode t p == n) (sym parts.1))

pub ring_alike : (g : Settings) (s : State) (n a b : ℕ) → same_strand g.mode s.now.trace a b ≡ true → ring_use g s n b ≡ ring_use g s n a
ring_alike g s n a b same =
    uses_agree (length s.now.trace) (is_of_ring g s n b) (is_of_ring g s n a) (set_of s.durable) (set_of s.durable)
    (λ q lt. ap (λ x. is_accepted g s n q && x) (same_alike g.mode s.now.trace a b q same)) (λ q. refl)

module _ (g : Settings) (t : List Event) (e : Event) (dispatched : List ℕ) (durable : List Bool) (within : (core : ℕ) → slice_index dispatched core ≤ count_below (length t) (core_event_is (is_item g.mode) core t)) where
  abbrev before : State
  before = ringed t dispatched durable

  abbrev then_ : State
  then_ = ringed (t ++ e ∷ []) dispatched (durable ++ false ∷ [])

  pub accepted_kept : (n p : ℕ) → p < length t → is_accepted g then_ n p ≡ is_accepted g before n p
  accepted_kept n p lt = cc (
    core_event_kept t e (is_item g.mode) n p lt,
    count_agree p (core_event_is (is_item g.mode) n (t ++ e ∷ [])) (core_event_is (is_item g.mode) n t) (λ k below. core_event_kept t e (is_item g.mode) n k (omega arith)),
    event_is_kept t e is_persist p lt,
  )

  pub accepted_new : (n p : ℕ) → length t ≤ p → is_accepted g then_ n p ≡ false
  accepted_new n p le = false_from_ne_true (is_accepted g then_ n p) (λ h.
      let one = and_parts (is_dispatched g then_ n p) (event_is is_persist (t ++ e ∷ []) p) h in
      let two = and_parts (core_event_is (is_item g.mode) n (t ++ e ∷ []) p) (nat_lt (count_below p (core_event_is (is_item g.mode) n (t ++ e ∷ []))) (slice_index dispatched n)) one.0 in
      let below = ltb-true (count_below p (core_event_is (is_item g.mode) n (t ++ e ∷ []))) (slice_index dispatched n) two.1 in
      elim (new_or_old g.mode t e is_persist p one.1) [
        | inl new ↦
            let all : count_below p (core_event_is (is_item g.mode) n (t ++ e ∷ [])) ≡ count_below (length t) (core_event_is (is_item g.mode) n t) = ap (λ x. count_below x (core_event_is (is_item g.mode) n (t ++ e ∷ []))) new ∙ items_kept g.mode t e n in
            omega (arith, below, all, within n)
        | inr old ↦ omega (arith, old, le)
      ])

  pub rings_grown : RingsFit g t dispatched durable → RingsFit g (t ++ e ∷ []) dispatched (durable ++ false ∷ [])
  rings_grown fit n k = elim (cases_Bool (any_below (length t) (is_of_ring g then_ n k))) [
    | inl some ↦
        let x = any_true (length t) (is_of_ring g then_ n k) some in
        let same = (and_parts (is_accepted g then_ n x.0) (same_strand g.mode (t ++ e ∷ []) x.0 k) x.2).1 in
        let past = uses_past (length t) (length (t ++ e ∷ [])) (is_of_ring g then_ n k) (set_of (durable ++ false ∷ [])) (omega (arith, length_grown t e)) (λ p le. rw (accepted_new n p le) refl) in
        let alike = uses_agree (length t) (is_of_ring g then_ n k) (is_of_ring g before n x.0) (set_of (durable ++ false ∷ [])) (set_of durable)
        (λ q lt. cc (accepted_kept n q lt, same_alike g.mode (t ++ e ∷ []) x.0 k q same, strand_kept t e g.mode q x.0 lt x.1)) (held_more durable) in
        omega (arith, past, alike, fit n x.0)
    | inr none ↦
        let no_uses = uses_none (length (t ++ e ∷ [])) (is_of_ring g then_ n k) (set_of (durable ++ false ∷ [])) (λ p. elim (cases_lt p (length t)) [
          | inl lt ↦ any_false (length t) (is_of_ring g then_ n k) none p lt
          | inr le ↦ rw (accepted_new n p le) refl
        ]) in
        omega (arith, no_uses)
  ]

-- what a dispatch that is done has seen
pub item_done : (g : Settings) (s : State) (n k : ℕ) → item_turn g s n (Some k) ≡ Done
    → (event_is is_persist s.now.trace k ≡ true → ring_use g s n k ≡ g.ring → ⊥)
    × (event_is is_new_strand s.now.trace k ≡ true → buffer_busy g s n (buffer_of g (strand_number g.mode s.now.trace k + 1)) ≡ false)
item_done g s n k done =
    let busy = buffer_busy g s n (buffer_of g (strand_number g.mode s.now.trace k + 1)) in
    let one = if_done (event_is is_persist s.now.trace k && (ring_use g s n k == g.ring)) causes.NoRoom (if event_is is_new_strand s.now.trace k && busy then Bubble causes.NotEmpty else Done) done in
    let two = if_done (event_is is_new_strand s.now.trace k && busy) causes.NotEmpty Done one.1 in (
      λ is full. both_ways (ring_use g s n k == g.ring) (so_not (event_is is_persist s.now.trace k) (ring_use g s n k == g.ring) one.0 is) (eq-eqb (ring_use g s n k) g.ring full),
      λ begins. so_not (event_is is_new_strand s.now.trace k) busy two.0 begins,
    )
