-- Serves clause buffers of parts_are_kept: a dispatch keeps the buffers of strands apart.
use Rattle.std.proofs.Common.{◌≡◌, ℕ, ◌+◌, ◌<◌, true, ◌&&◌, ◌⊎◌, inl, inr, List, length, sym, ap, ◌∙◌, arith}
use Rattle.std.specs.Prelude.{Some, not, slice_get, slice_index, slice_set, ◌%◌, ◌==◌}
use Rattle.std.proofs.lemmas.Bool.{cases_eq, cases_lt, and_parts, and_from, eqb-true, eq-eqb}
use Rattle.strand_base.specs.Counting.{count_below}
use Rattle.strand_base.proofs.BelowBound.{any_false, count_mono}
use Rattle.strand_inputs.specs.Settings.{Settings}
use Rattle.strand_events.specs.Trace.{is_persist, is_new_strand, core_at, event_is, core_event_is, strand_number}
use Rattle.strand_events.specs.Order.{set_of}
use Rattle.strand_rules.specs.declared.turn.Turn.TheVariants.{Done}
use Rattle.strand_rules.specs.Cycle.{State, is_item, gone, front, is_accepted, buffer_of, item_turn}
use Rattle.strand_events.proofs.EventWithin.{event_within}
use Rattle.strand_rules.proofs.MarkSets.{number_set, number_other}
use Rattle.strand_rules.proofs.Ranks.{rank, persist_ranks, same_rank}
use Rattle.strand_rules.proofs.Front.{found}
use Rattle.strand_rules.proofs.Turns.{then_so}
use Rattle.strand_rules.proofs.PartsAreKept.{rank_accepted}
use Rattle.strand_rules.proofs.Buffers.Begin.{Taken, AreEmptied, begins_none, begun_before}
use Rattle.strand_rules.proofs.Buffers.RingEvent.{item_done}

module _ (g : Settings) (s : State) (n k : ℕ) (first : front g s n ≡ Some k) (there : n < length s.dispatched) where
  abbrev dispatched' : List ℕ
  dispatched' = slice_set s.dispatched n (gone s n + 1)

  core_k : core_at s.now.trace k ≡ n
  core_k = eqb-true (core_at s.now.trace k) n ((and_parts (event_is (is_item g.mode) s.now.trace k) (core_at s.now.trace k == n) ((found g s n k first).1)).1)

  -- an item that is dispatched now was dispatched before, or is the first of the queue
  was_gone : (x : ℕ) → event_is (is_item g.mode) s.now.trace x ≡ true → rank g.mode s.now.trace x < slice_index dispatched' (core_at s.now.trace x) → (rank g.mode s.now.trace x < gone s (core_at s.now.trace x)) ⊎ (x ≡ k)
  was_gone x item below = elim (cases_eq (core_at s.now.trace x) n) [
    | inl c ↦ elim (cases_lt (rank g.mode s.now.trace x) (gone s (core_at s.now.trace x))) [
      | inl lt ↦ inl lt
      | inr le ↦
          let test = core_event_is (is_item g.mode) n s.now.trace in
          let more : slice_index dispatched' (core_at s.now.trace x) ≡ gone s n + 1 = ap (slice_index dispatched') c ∙ number_set s.dispatched n (gone s n + 1) there in
          let same : rank g.mode s.now.trace x ≡ gone s n = omega (arith, below, more, le, ap (gone s) c) in
          let is : test x ≡ true = and_from (event_is (is_item g.mode) s.now.trace x) (core_at s.now.trace x == n) item (eq-eqb (core_at s.now.trace x) n c) in
          let r : count_below x test ≡ count_below k test = ap (λ c. count_below x (core_event_is (is_item g.mode) c s.now.trace)) (sym c) ∙ same ∙ sym (found g s n k first).2 in
          inr (same_rank test x k is ((found g s n k first).1) r)
    ]
    | inr ne ↦ inl (omega (arith, below, number_other s.dispatched n (core_at s.now.trace x) (gone s n + 1) ne))
  ]

  persist_is_item : (p : ℕ) → event_is is_persist s.now.trace p ≡ true → event_is (is_item g.mode) s.now.trace p ≡ true
  persist_is_item p is = (and_parts (event_is (is_item g.mode) s.now.trace p) (core_at s.now.trace p == core_at s.now.trace p) (persist_ranks g.mode s.now.trace p is)).0

  -- an item of core n that was dispatched stands before the first of its queue
  stands_before : (j : ℕ) → core_at s.now.trace j ≡ n → rank g.mode s.now.trace j < gone s (core_at s.now.trace j) → j < k
  stands_before j c below = elim (cases_lt j k) [
    | inl lt ↦ lt
    | inr le ↦
        let r : rank g.mode s.now.trace j ≡ count_below j (core_event_is (is_item g.mode) n s.now.trace) = ap (λ c. count_below j (core_event_is (is_item g.mode) c s.now.trace)) c in
        absurd (omega (arith, below, ap (gone s) c, r, (found g s n k first).2, count_mono k j (core_event_is (is_item g.mode) n s.now.trace) le))
  ]

  module _ (done : item_turn g s n (Some k) ≡ Done) (emptied : AreEmptied g.mode g.buffers s.now.trace (slice_index s.dispatched) (set_of s.durable)) where
    -- the buffer of the strand that item k begins is empty
    empty_now : (p : ℕ) → Taken g.mode s.now.trace (slice_index s.dispatched) p → event_is is_new_strand s.now.trace k ≡ true → core_at s.now.trace p ≡ n
        → strand_number g.mode s.now.trace p % g.buffers ≡ (strand_number g.mode s.now.trace k + 1) % g.buffers → set_of s.durable p ≡ true
    empty_now p taken begins c same =
        let b = buffer_of g (strand_number g.mode s.now.trace k + 1) in
        let accepted : is_accepted g s n p ≡ true = ap (λ m. is_accepted g s m p) (sym c) ∙ rank_accepted g s p taken.persist taken.gone in
        let at = any_false (length s.now.trace) (λ p. is_accepted g s n p && (buffer_of g (strand_number g.mode s.now.trace p) == b) && not (set_of s.durable p)) ((item_done g s n k done).1 begins) p (event_within is_persist s.now.trace p taken.persist) in
        then_so (is_accepted g s n p && (buffer_of g (strand_number g.mode s.now.trace p) == b)) (set_of s.durable p) at
        (and_from (is_accepted g s n p) (buffer_of g (strand_number g.mode s.now.trace p) == b) accepted (eq-eqb (buffer_of g (strand_number g.mode s.now.trace p)) b same))

    pub emptied_item : AreEmptied g.mode g.buffers s.now.trace (slice_index dispatched') (set_of s.durable)
    emptied_item p j taken begins c le same = elim (was_gone j begins.item begins.gone) [
      | inl j_gone ↦ elim (was_gone p (persist_is_item p taken.persist) taken.gone) [
        | inl p_gone ↦ emptied p j (record { persist = taken.persist; gone = p_gone }) (record { begins = begins.begins; item = begins.item; gone = j_gone }) c le same
        | inr new ↦
            let own : core_at s.now.trace j ≡ core_at s.now.trace k = sym c ∙ ap (core_at s.now.trace) new in
            let later = begun_before g.mode s.now.trace j k begins.begins begins.item own (stands_before j (own ∙ core_k) j_gone) in
            absurd (omega (arith, le, later, ap (strand_number g.mode s.now.trace) new))
      ]
      | inr first_ ↦
          let begins_k : event_is is_new_strand s.now.trace k ≡ true = ap (event_is is_new_strand s.now.trace) (sym first_) ∙ begins.begins in
          elim (was_gone p (persist_is_item p taken.persist) taken.gone) [
            | inl p_gone ↦ empty_now p (record { persist = taken.persist; gone = p_gone }) begins_k (c ∙ ap (core_at s.now.trace) first_ ∙ core_k) (same ∙ ap (λ j. (strand_number g.mode s.now.trace j + 1) % g.buffers) first_)
            | inr new ↦ absurd (begins_none (slice_get s.now.trace k) begins_k (ap (event_is is_persist s.now.trace) (sym new) ∙ taken.persist))
          ]
    ]
