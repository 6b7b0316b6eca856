-- Serves clause buffers of parts_are_kept: after a dispatch no strand uses more places than its ring has.
use Rattle.std.proofs.Common.{◌≡◌, ℕ, suc, ◌+◌, ◌<◌, ◌≤◌, Bool, true, false, ◌&&◌, inl, inr, List, length, refl, sym, ap, subst, ◌∙◌, arith}
use Rattle.std.specs.Prelude.{Some, nat_lt, slice_set}
use Rattle.std.proofs.lemmas.Bool.{cases_eq, cases_Bool, cases_lt, and_parts, lt-ltb, le-ltb}
use Rattle.strand_base.specs.Counting.{count_below}
use Rattle.strand_inputs.specs.Settings.{Settings}
use Rattle.strand_events.specs.Trace.{is_persist, event_is, core_event_is, same_strand}
use Rattle.strand_events.specs.Order.{set_of}
use Rattle.strand_rules.specs.declared.turn.Turn.TheVariants.{Done}
use Rattle.strand_rules.specs.Cycle.{State, is_item, gone, front, is_accepted, is_of_ring, ring_use, item_turn}
use Rattle.strand_rules.proofs.MarkSets.{number_set, number_other}
use Rattle.strand_rules.proofs.Ranks.{same_rank}
use Rattle.strand_rules.proofs.Front.{found, accepted_past}
use Rattle.strand_rules.proofs.Buffers.RingUse.{uses_agree, uses_one}
use Rattle.strand_rules.proofs.Buffers.RingEvent.{RingsFit, ringed, ring_alike, item_done}

no_last : (x p s : Bool) → (p && s) ≡ false → (x && p && s) ≡ false
no_last false p s h = refl
no_last true p s h = h

module _ (g : Settings) (s : State) (n k : ℕ) (first : front g s n ≡ Some k) (there : n < length s.dispatched) where
  abbrev dispatched' : List ℕ
  dispatched' = slice_set s.dispatched n (gone s n + 1)

  abbrev then_ : State
  then_ = ringed s.now.trace dispatched' s.durable

  abbrev test : ℕ → Bool
  test p = core_event_is (is_item g.mode) n s.now.trace p

  pub one_more : gone then_ n ≡ suc (gone s n)
  one_more = let one : gone s n + 1 ≡ suc (gone s n) = omega arith in number_set s.dispatched n (gone s n + 1) there ∙ one

  -- of the other items as many were dispatched
  pub below_same : (p : ℕ) → (p ≡ k → ⊥) → test p ≡ true → nat_lt (count_below p test) (gone then_ n) ≡ nat_lt (count_below p test) (gone s n)
  below_same p ne is = elim (cases_lt (count_below p test) (gone s n)) [
    | inl lt ↦ lt-ltb (count_below p test) (gone then_ n) (omega (arith, lt, one_more)) ∙ sym (lt-ltb (count_below p test) (gone s n) lt)
    | inr le ↦
        let other : count_below p test ≡ gone s n → ⊥ = λ same. ne (same_rank test p k is ((found g s n k first).1) (same ∙ sym (found g s n k first).2)) in
        let above : gone then_ n ≤ count_below p test = elim (cases_eq (count_below p test) (gone s n)) [ inl e ↦ absurd (other e) | inr unlike ↦ (let more : gone s n < count_below p test = grind arith in omega (arith, more, one_more)) ] in
        le-ltb (count_below p test) (gone then_ n) above ∙ sym (le-ltb (count_below p test) (gone s n) le)
  ]

  pub accepted_other : (p : ℕ) → (p ≡ k → ⊥) → is_accepted g then_ n p ≡ is_accepted g s n p
  accepted_other p ne = elim (cases_Bool (test p)) [
    | inl yes_ ↦ ap (λ b. test p && b && event_is is_persist s.now.trace p) (below_same p ne yes_)
    | inr no_ ↦ rw no_ refl
  ]

  pub accepted_apart : (m p : ℕ) → (m ≡ n → ⊥) → is_accepted g then_ m p ≡ is_accepted g s m p
  accepted_apart m p ne = ap (λ d. core_event_is (is_item g.mode) m s.now.trace p && nat_lt (count_below p (core_event_is (is_item g.mode) m s.now.trace)) d && event_is is_persist s.now.trace p) (number_other s.dispatched n m (gone s n + 1) ne)

  module _ (done : item_turn g s n (Some k) ≡ Done) (fit : RingsFit g s.now.trace s.dispatched s.durable) where
    own_fits : (j : ℕ) → ring_use g then_ n j ≤ g.ring
    own_fits j = elim (cases_Bool (event_is is_persist s.now.trace k && same_strand g.mode s.now.trace k j)) [
      | inl both ↦
          let parts = and_parts (event_is is_persist s.now.trace k) (same_strand g.mode s.now.trace k j) both in
          let more = uses_one (length s.now.trace) k (is_of_ring g s n j) (is_of_ring g then_ n j) (set_of s.durable) ((found g s n k first).0)
          (λ p le. rw (accepted_past g s n k first p le) refl) (λ p ne. ap (λ b. b && same_strand g.mode s.now.trace p j) (accepted_other p ne)) in
          let alike = ring_alike g s n k j parts.1 in
          let full : ring_use g s n k ≡ g.ring → ⊥ = (item_done g s n k done).0 parts.0 in
          let room : ring_use g s n k < g.ring = elim (cases_eq (ring_use g s n k) g.ring) [ inl e ↦ absurd (full e) | inr ne ↦ (let most = fit n k in grind arith) ] in
          omega (arith, more, alike, room)
      | inr neither ↦
          let here : is_of_ring g then_ n j k ≡ is_of_ring g s n j k = no_last (test k && nat_lt (count_below k test) (gone then_ n)) (event_is is_persist s.now.trace k) (same_strand g.mode s.now.trace k j) neither ∙ sym (rw (accepted_past g s n k first k (omega arith)) refl) in
          let same = uses_agree (length s.now.trace) (is_of_ring g then_ n j) (is_of_ring g s n j) (set_of s.durable) (set_of s.durable) (λ q lt. elim (cases_eq q k) [
            | inl e ↦ ap (is_of_ring g then_ n j) e ∙ here ∙ sym (ap (is_of_ring g s n j) e)
            | inr ne ↦ ap (λ b. b && same_strand g.mode s.now.trace q j) (accepted_other q ne)
          ]) (λ q. refl) in
          omega (arith, same, fit n j)
    ]

    pub rings_item : RingsFit g s.now.trace dispatched' s.durable
    rings_item m j = elim (cases_eq m n) [
      | inl e ↦ subst (λ i. ring_use g then_ i j ≤ g.ring) (sym e) (own_fits j)
      | inr ne ↦
          let same = uses_agree (length s.now.trace) (is_of_ring g then_ m j) (is_of_ring g s m j) (set_of s.durable) (set_of s.durable) (λ q lt. ap (λ b. b && same_strand g.mode s.now.trace q j) (accepted_apart m q ne)) (λ q. refl) in
          omega (arith, same, fit m j)
    ]
