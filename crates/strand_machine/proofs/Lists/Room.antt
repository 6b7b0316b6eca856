-- Serves clause step of Machine::step at a dispatch: the room for the first item of a queue.
-- The ring of the strand of a core's first queued item by the list of its buffer, and the number of that strand.
use Rattle.std.proofs.Common.{◌≡◌, ℕ, suc, ◌+◌, ◌<◌, ◌≤◌, Bool, true, false, ◌&&◌, ◌||◌, inl, inr, List, length, refl, sym, ap, subst, ◌∙◌, arith}
use Rattle.std.specs.Prelude.{not, nat_lt, ◌==◌, ◌%◌, slice_get, slice_index, Some}
use Rattle.std.proofs.lemmas.Bool.{cases_lt, and_parts, and_from, not-true, both_ways, eqb-true, eq-eqb, ltb-true, lt-ltb, or_right, false_from_ne_true}
use Rattle.strand_base.specs.Counting.{count_below, any_below}
use Rattle.strand_base.proofs.BelowBound.{any_true, any_from, count_agree, count_flat, count_mono, count_strict, list_length}
use Rattle.strand_inputs.specs.Settings.{Settings}
use Rattle.strand_inputs.specs.declared.mode.Mode.{Mode}
use Rattle.strand_inputs.specs.declared.mode.Mode.TheVariants.{Strict, Epoch, Strand}
use Rattle.strand_events.specs.declared.event.Event.{Event}
use Rattle.strand_events.specs.Trace.{is_persist, is_barrier, is_new_strand, core_at, event_is, core_event_is, strand_number, same_strand}
use Rattle.strand_events.specs.Order.{set_of}
use Rattle.strand_events.proofs.PersistOrder.Epochs.{weaker, strand_parts, strand_from}
use Rattle.strand_rules.specs.Cycle.{State, is_item, gone, front, is_dispatched, is_accepted, is_of_ring, ring_use, buffer_of}
use Rattle.strand_rules.proofs.Ranks.{rank}
use Rattle.strand_rules.proofs.PartsAreKept.{accepted_rank}
use Rattle.strand_rules.proofs.Front.{found, accepted_past}
use Rattle.strand_rules.proofs.Buffers.OneStrand.{strand_begin}
use Rattle.strand_rules.proofs.Buffers.Begin.{Begins, found_strand}
use Rattle.strand_rules.proofs.Buffers.Run.{IsFit}
use Rattle.strand_machine.proofs.Lists.FromOpen.{is_used, open_below}
use Rattle.strand_machine.specs.Lists.{is_of_buffer, listed, begun}
use Rattle.strand_tags.proofs.Waits.{alike}

-- along a core the numbers of the strands never fall
pub numbers_rise : (mode : Mode) (t : List Event) (i j : ℕ) → core_at t i ≡ core_at t j → i ≤ j → strand_number mode t i ≤ strand_number mode t j
numbers_rise Strict t i j c le = omega arith
numbers_rise Epoch t i j c le = omega arith
numbers_rise Strand t i j c le = rw c (count_mono i j (core_event_is is_new_strand (core_at t j) t) le)

module _ (g : Settings) (s : State) (n k : ℕ) (first : front g s n ≡ Some k) where
  abbrev item : ℕ → Bool
  item p = core_event_is (is_item g.mode) n s.now.trace p

  pub k_core : core_at s.now.trace k ≡ n
  k_core = eqb-true (core_at s.now.trace k) n ((and_parts (event_is (is_item g.mode) s.now.trace k) (core_at s.now.trace k == n) (found g s n k first).1).1)

  pub accepted_core : (p : ℕ) → is_accepted g s n p ≡ true → core_at s.now.trace p ≡ n
  accepted_core p h =
      let one = and_parts (is_dispatched g s n p) (event_is is_persist s.now.trace p) h in
      let two = and_parts (item p) (nat_lt (count_below p item) (gone s n)) one.0 in
      eqb-true (core_at s.now.trace p) n ((and_parts (event_is (is_item g.mode) s.now.trace p) (core_at s.now.trace p == n) two.0).1)

  pub accepted_earlier : (p : ℕ) → is_accepted g s n p ≡ true → p < k
  accepted_earlier p h = elim (cases_lt p k) [ inl lt ↦ lt | inr le ↦ absurd (both_ways (is_accepted g s n p) (accepted_past g s n k first p le) h) ]

  -- the begin of k's strand, where there is one, was dispatched
  own_begin : 0 < strand_number g.mode s.now.trace k → (j : ℕ) × Begins g.mode s.now.trace (slice_index s.dispatched) j × (core_at s.now.trace j ≡ n) × (strand_number g.mode s.now.trace j + 1 ≡ strand_number g.mode s.now.trace k)
  own_begin some =
      let more : ℕ → ℕ = λ c. suc (slice_index s.dispatched c) in
      let ranked : rank g.mode s.now.trace k ≡ gone s n = ap (λ c. count_below k (core_event_is (is_item g.mode) c s.now.trace)) k_core ∙ (found g s n k first).2 in
      let counts : more (core_at s.now.trace k) ≡ suc (gone s n) = ap more k_core in
      let begun = strand_begin g.mode s.now.trace more k (omega (arith, ranked, counts)) some in
      let j = begun.0 in
      let c : core_at s.now.trace j ≡ n = begun.2 ∙ k_core in
      let earlier : j < k = elim (cases_lt j k) [ inl lt ↦ lt | inr le ↦ absurd (omega (arith, begun.3, numbers_rise g.mode s.now.trace k j (sym begun.2) le)) ] in
      let passes_ : core_event_is (is_item g.mode) n s.now.trace j ≡ true = and_from (event_is (is_item g.mode) s.now.trace j) (core_at s.now.trace j == n) begun.1.item (eq-eqb (core_at s.now.trace j) n c) in
      let fewer = count_strict j j k item (omega arith) earlier passes_ in
      let below : rank g.mode s.now.trace j < slice_index s.dispatched (core_at s.now.trace j) = subst (λ c. count_below j (core_event_is (is_item g.mode) c s.now.trace) < slice_index s.dispatched c) (sym c) (omega (arith, fewer, (found g s n k first).2)) in
      (j, record { begins = begun.1.begins; item = begun.1.item; gone = below }, c, begun.3)

  module _ (fit : IsFit g s) where
    abbrev b : ℕ
    b = buffer_of g (strand_number g.mode s.now.trace k)

    -- a persist of k's buffer that isn't durable is of k's strand
    open_own : (q : ℕ) → is_of_buffer g s n b q ≡ true → set_of s.durable q ≡ false → strand_number g.mode s.now.trace q ≡ strand_number g.mode s.now.trace k
    open_own q h undone =
        let one = and_parts (is_accepted g s n q) (buffer_of g (strand_number g.mode s.now.trace q) == b) h in
        let c = accepted_core q one.0 in
        let same : buffer_of g (strand_number g.mode s.now.trace q) ≡ b = eqb-true (buffer_of g (strand_number g.mode s.now.trace q)) b one.1 in
        let most = numbers_rise g.mode s.now.trace q k (c ∙ sym k_core) (omega (arith, accepted_earlier q one.0)) in
        elim (cases_lt (strand_number g.mode s.now.trace q) (strand_number g.mode s.now.trace k)) [
          | inr le ↦ omega (arith, le, most)
          | inl lt ↦
              let begun = own_begin (omega (arith, lt)) in
              let taken = accepted_rank g s q (subst (λ m. is_accepted g s m q ≡ true) (sym c) one.0) in
              let done = fit.emptied q begun.0 (record { persist = taken.0; gone = taken.1 }) begun.1 (c ∙ sym begun.2) (omega (arith, lt, begun.3)) (same ∙ ap (λ x. x % g.buffers) (sym begun.3)) in
              absurd (both_ways (set_of s.durable q) undone done)
        ]

    used_alike : (p : ℕ) → is_used (is_of_buffer g s n b) (set_of s.durable) p ≡ is_used (is_of_ring g s n k) (set_of s.durable) p
    used_alike p = alike (is_used (is_of_buffer g s n b) (set_of s.durable) p) (is_used (is_of_ring g s n k) (set_of s.durable) p)
        (λ h.
        let parts = and_parts (is_of_buffer g s n b p) (any_below (suc p) (λ q. is_of_buffer g s n b q && not (set_of s.durable q))) h in
        let found_one = any_true (suc p) (λ q. is_of_buffer g s n b q && not (set_of s.durable q)) parts.1 in
        let q = found_one.0 in
        let both = and_parts (is_of_buffer g s n b q) (not (set_of s.durable q)) found_one.2 in
        let own_q = open_own q both.0 (not-true (set_of s.durable q) both.1) in
        let taken_p = (and_parts (is_accepted g s n p) (buffer_of g (strand_number g.mode s.now.trace p) == b) parts.0).0 in
        let taken_q = (and_parts (is_accepted g s n q) (buffer_of g (strand_number g.mode s.now.trace q) == b) both.0).0 in
        let cp = accepted_core p taken_p in
        let cq = accepted_core q taken_q in
        let least = numbers_rise g.mode s.now.trace q p (cq ∙ sym cp) (omega (arith, found_one.1)) in
        let most = numbers_rise g.mode s.now.trace p k (cp ∙ sym k_core) (omega (arith, accepted_earlier p taken_p)) in
        let own_p : strand_number g.mode s.now.trace p ≡ strand_number g.mode s.now.trace k = omega (arith, least, most, own_q) in
        and_from (is_of_ring g s n k p) (any_below (suc p) (λ q. is_of_ring g s n k q && not (set_of s.durable q)))
        (and_from (is_accepted g s n p) (same_strand g.mode s.now.trace p k) taken_p (strand_from g.mode s.now.trace p k (cp ∙ sym k_core) own_p))
        (any_from (suc p) (λ q. is_of_ring g s n k q && not (set_of s.durable q)) q found_one.1 (and_from (is_of_ring g s n k q) (not (set_of s.durable q)) (and_from (is_accepted g s n q) (same_strand g.mode s.now.trace q k) taken_q (strand_from g.mode s.now.trace q k (cq ∙ sym k_core) own_q)) both.1)))
        (λ h.
        let parts = and_parts (is_of_ring g s n k p) (any_below (suc p) (λ q. is_of_ring g s n k q && not (set_of s.durable q))) h in
        let found_one = any_true (suc p) (λ q. is_of_ring g s n k q && not (set_of s.durable q)) parts.1 in
        let q = found_one.0 in
        let both = and_parts (is_of_ring g s n k q) (not (set_of s.durable q)) found_one.2 in
        and_from (is_of_buffer g s n b p) (any_below (suc p) (λ q. is_of_buffer g s n b q && not (set_of s.durable q))) (in_buffer p parts.0)
        (any_from (suc p) (λ q. is_of_buffer g s n b q && not (set_of s.durable q)) q found_one.1 (and_from (is_of_buffer g s n b q) (not (set_of s.durable q)) (in_buffer q both.0) both.1)))
      where
        in_buffer : (q : ℕ) → is_of_ring g s n k q ≡ true → is_of_buffer g s n b q ≡ true
        in_buffer q h =
            let both = and_parts (is_accepted g s n q) (same_strand g.mode s.now.trace q k) h in
            let number = (strand_parts g.mode s.now.trace q k both.1).1 in
            and_from (is_accepted g s n q) (buffer_of g (strand_number g.mode s.now.trace q) == b) both.0 (eq-eqb (buffer_of g (strand_number g.mode s.now.trace q)) b (ap (buffer_of g) number))

    -- the places in use of the ring of k's strand are the list of its buffer
    pub ring_by_list : length (listed g s n (buffer_of g (strand_number g.mode s.now.trace k))) ≡ ring_use g s n k
    ring_by_list =
        ap length (open_below (is_of_buffer g s n b) (set_of s.durable) (length s.now.trace))
        ∙ list_length (length s.now.trace) (is_used (is_of_buffer g s n b) (set_of s.durable))
        ∙ count_agree (length s.now.trace) (is_used (is_of_buffer g s n b) (set_of s.durable)) (is_used (is_of_ring g s n k) (set_of s.durable)) (λ p lt. used_alike p)

begin_item : (e : Event) → is_new_strand e ≡ true → is_item Strand e ≡ true
begin_item e h = or_right (is_persist e || is_barrier e) (is_new_strand e) h

-- the current strand of a core's buffers is the strand of the first item of its queue
pub begun_by_front : (g : Settings) (s : State) (n k : ℕ) → front g s n ≡ Some k → begun g s n ≡ strand_number g.mode s.now.trace k
begun_by_front g s n k first = go g.mode refl
  where
    began : ℕ → Bool
    began i = is_dispatched g s n i && event_is is_new_strand s.now.trace i

    is_core : core_at s.now.trace k ≡ n
    is_core = k_core g s n k first

    late : (i : ℕ) → k ≤ i → began i ≡ false
    late i le = false_from_ne_true (began i) (λ h.
        let one = and_parts (is_dispatched g s n i) (event_is is_new_strand s.now.trace i) h in
        let two = and_parts (item g s n k first i) (nat_lt (count_below i (item g s n k first)) (gone s n)) one.0 in
        omega (arith, ltb-true (count_below i (item g s n k first)) (gone s n) two.1, count_mono k i (item g s n k first) le, (found g s n k first).2))

    flat : begun g s n ≡ count_below k began
    flat = count_flat k (length s.now.trace) began (let inside = (found g s n k first).0 in omega (arith, inside)) (λ i le lt. late i le)

    none : (m : Mode) → m ≡ g.mode → (m ≡ Strand → ⊥) → count_below k began ≡ 0
    none m is apart = count_flat 0 k began (omega arith) (λ i le lt. false_from_ne_true (began i) (λ h.
        let one = and_parts (is_dispatched g s n i) (event_is is_new_strand s.now.trace i) h in
        let two = and_parts (item g s n k first i) (nat_lt (count_below i (item g s n k first)) (gone s n)) one.0 in
        let three = and_parts (event_is (is_item g.mode) s.now.trace i) (core_at s.now.trace i == n) two.0 in
        apart (found_strand m (slice_get s.now.trace i) one.1 (ap (λ x. event_is (is_item x) s.now.trace i) is ∙ three.0))))

    all : Strand ≡ g.mode → (i : ℕ) → i < k → began i ≡ core_event_is is_new_strand n s.now.trace i
    all is i lt = alike (began i) (core_event_is is_new_strand n s.now.trace i)
        (λ h.
        let one = and_parts (is_dispatched g s n i) (event_is is_new_strand s.now.trace i) h in
        let two = and_parts (item g s n k first i) (nat_lt (count_below i (item g s n k first)) (gone s n)) one.0 in
        let three = and_parts (event_is (is_item g.mode) s.now.trace i) (core_at s.now.trace i == n) two.0 in
        and_from (event_is is_new_strand s.now.trace i) (core_at s.now.trace i == n) one.1 three.1)
        (λ h.
        let both = and_parts (event_is is_new_strand s.now.trace i) (core_at s.now.trace i == n) h in
        let is_item_ : event_is (is_item g.mode) s.now.trace i ≡ true = ap (λ x. event_is (is_item x) s.now.trace i) (sym is) ∙ weaker is_new_strand (is_item Strand) begin_item s.now.trace i both.0 in
        let item_i : item g s n k first i ≡ true = and_from (event_is (is_item g.mode) s.now.trace i) (core_at s.now.trace i == n) is_item_ both.1 in
        let fewer = count_strict i i k (item g s n k first) (omega arith) lt item_i in
        and_from (is_dispatched g s n i) (event_is is_new_strand s.now.trace i) (and_from (item g s n k first i) (nat_lt (count_below i (item g s n k first)) (gone s n)) item_i (lt-ltb (count_below i (item g s n k first)) (gone s n) (omega (arith, fewer, (found g s n k first).2)))) both.0)

    go : (m : Mode) → m ≡ g.mode → begun g s n ≡ strand_number m s.now.trace k
    go Strict is = flat ∙ none Strict is (λ e. cc e)
    go Epoch is = flat ∙ none Epoch is (λ e. cc e)
    go Strand is = flat ∙ count_agree k began (core_event_is is_new_strand n s.now.trace) (all is) ∙ ap (λ c. count_below k (core_event_is is_new_strand c s.now.trace)) (sym is_core)
