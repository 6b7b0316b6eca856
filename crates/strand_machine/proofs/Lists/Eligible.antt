-- Serves clause step of Machine::step: the eligible persists of a buffer by its list.
use Rattle.std.proofs.Common.{◌≡◌, ℕ, suc, ◌<◌, Bool, true, false, ◌&&◌, inl, inr, List, length, map, refl, sym, ap, subst, ◌∙◌, arith}
use Rattle.std.specs.Prelude.{not, nat_lt, ◌==◌, slice_get, slice_index, Some}
use Rattle.std.specs.Option.{option_map}
use Rattle.std.proofs.lemmas.Bool.{cases_Bool, cases_lt, and_parts, and_from, not-true, eqb-true, eq-eqb, ltb-true, lt-ltb, true≢false, false_from_ne_true}
use Rattle.std.proofs.lemmas.List.{length-map}
use Rattle.std.proofs.lemmas.Option.{slice_get-map, slice_get_within, slice_get_past, slice_get-get_or}
use Rattle.strand_base.specs.Counting.{count_below, list_below, any_below}
use Rattle.strand_base.proofs.BelowBound.{any_true, any_from, count_mono, count_strict, list_get}
use Rattle.strand_inputs.specs.Settings.{Settings}
use Rattle.strand_events.specs.Trace.{is_persist, core_at, word_at, event_is, core_event_is, strand_number, same_strand, epoch}
use Rattle.strand_events.specs.Order.{set_of}
use Rattle.strand_events.proofs.PersistOrder.Epochs.{strand_parts, strand_from, strand_flip, epochs_rise}
use Rattle.strand_rules.specs.Cycle.{State, is_item, gone, is_accepted, is_dispatched, buffer_of, buffer_busy, is_lower, epoch_waits, word_waits, is_in_buffer, persist_unmet, is_eligible, eligible}
use Rattle.strand_rules.specs.DispatchedPersists.{AreParts, FitBuffers, IsOpen}
use Rattle.strand_rules.proofs.Ranks.{rank_earlier}
use Rattle.strand_rules.proofs.PartsAreKept.{accepted_rank, rank_accepted}
use Rattle.strand_base.proofs.ListBelow.{list_at}
use Rattle.strand_buffer.specs.declared.entry.Entry.{Entry}
use Rattle.strand_buffer.specs.Entries.{is_buffered, is_open, entry_is, passes, epoch_at, epoch_in, eligible_places}
use Rattle.strand_buffer.specs.Entries as entry_lists
use Rattle.strand_machine.proofs.Lists.FromOpen.{is_used, some_open, open_below, open_empty, some_below, list_within}
use Rattle.strand_machine.specs.Lists.{is_of_buffer, listed, entry_of, entries}
use Rattle.strand_tags.proofs.Waits.{alike}

pub not_not : (x : Bool) → not (not x) ≡ x
not_not true = refl
not_not false = refl

none_of : (x y z w : Bool) → x ≡ false → (x && y && z && w) ≡ false
none_of x y z w e = rw e refl

told_in : (x y z : Bool) → y ≡ true → z ≡ true → (x && y && z) ≡ x
told_in true y z e e' = rw (e, e') refl
told_in false y z e e' = refl

each_of : (x y z w x' y' z' w' : Bool) → x ≡ x' → y ≡ y' → z ≡ z' → w ≡ w' → (x && y && z && w) ≡ (x' && y' && z' && w')
each_of x y z w x' y' z' w' e e' e'' f = rw (e, e', e'', f) refl

-- With these counts of durable first persists the wait of each persist is met where the rules find it so.
abbrev pub Meets : Settings → State → List ℕ → Type 0
Meets g s durable = (p : ℕ) → entry_lists.is_met_by durable (entry_of g s p) ≡ not (persist_unmet g.conflict g.mode s.now.trace (set_of s.durable) p)

-- the next strand's buffer is empty exactly where its list is
pub busy_by_list : (g : Settings) (s : State) (n b : ℕ) → buffer_busy g s n b ≡ not (length (listed g s n b) == 0)
busy_by_list g s n b =
    sym (some_below (is_of_buffer g s n b) (set_of s.durable) (length s.now.trace))
    ∙ sym (ap not (open_empty (set_of s.durable) (list_below (length s.now.trace) (is_of_buffer g s n b))) ∙ not_not (some_open (set_of s.durable) (list_below (length s.now.trace) (is_of_buffer g s n b))))

module _ (g : Settings) (s : State) (n b : ℕ) (parts : AreParts g s) (fit : FitBuffers g s) where
  abbrev ring : ℕ → Bool
  ring p = is_of_buffer g s n b p

  abbrev used : ℕ → Bool
  used p = is_used ring (set_of s.durable) p

  listed_is : listed g s n b ≡ list_below (length s.now.trace) used
  listed_is = open_below ring (set_of s.durable) (length s.now.trace)

  stage_open : (p : ℕ) → is_open (entry_of g s p) ≡ not (set_of s.durable p)
  stage_open p = elim (cases_Bool (set_of s.durable p)) [
    | inl d ↦ rw d refl
    | inr d ↦ elim (cases_Bool (set_of s.buffered p)) [ inl w ↦ rw (d, w) refl | inr w ↦ rw (d, w) refl ]
  ]

  stage_buffered : (p : ℕ) → is_buffered (entry_of g s p) ≡ set_of s.buffered p
  stage_buffered p = elim (cases_Bool (set_of s.durable p)) [
    | inl d ↦ rw d (sym (false_from_ne_true (set_of s.buffered p) (λ w. parts.apart.not_both p w (inr d))))
    | inr d ↦ elim (cases_Bool (set_of s.buffered p)) [ inl w ↦ rw (d, w) refl | inr w ↦ rw (d, w) refl ]
  ]

  -- a member of the buffer
  member : (p : ℕ) → ring p ≡ true → (is_accepted g s n p ≡ true) × (core_at s.now.trace p ≡ n) × (buffer_of g (strand_number g.mode s.now.trace p) ≡ b)
  member p h =
      let one = and_parts (is_accepted g s n p) (buffer_of g (strand_number g.mode s.now.trace p) == b) h in
      let two = and_parts (is_dispatched g s n p) (event_is is_persist s.now.trace p) one.0 in
      let three = and_parts (core_event_is (is_item g.mode) n s.now.trace p) (nat_lt (count_below p (core_event_is (is_item g.mode) n s.now.trace)) (gone s n)) two.0 in
      (one.0, eqb-true (core_at s.now.trace p) n ((and_parts (event_is (is_item g.mode) s.now.trace p) (core_at s.now.trace p == n) three.0).1), eqb-true (buffer_of g (strand_number g.mode s.now.trace p)) b one.1)

  own : (p : ℕ) → core_at s.now.trace p ≡ n → is_accepted g s n p ≡ true → is_accepted g s (core_at s.now.trace p) p ≡ true
  own p c h = subst (λ m. is_accepted g s m p ≡ true) (sym c) h

  open_member : (p : ℕ) → ring p ≡ true → set_of s.durable p ≡ false → IsOpen g s p
  open_member p h d = let m = member p h in (own p m.1 m.0, d)

  -- two members that aren't durable are of one strand
  one_strand : (p q : ℕ) → ring p ≡ true → set_of s.durable p ≡ false → ring q ≡ true → set_of s.durable q ≡ false → same_strand g.mode s.now.trace p q ≡ true
  one_strand p q hp dp hq dq =
      let mp = member p hp in
      let mq = member q hq in
      strand_from g.mode s.now.trace p q (mp.1 ∙ sym mq.1) (fit.one_strand p q (open_member p hp dp) (open_member q hq dq) (mp.1 ∙ sym mq.1) (mp.2 ∙ sym mq.2))

  -- a member that isn't durable is in the list, at the place that counts those before it
  pub listed_at : (q : ℕ) → ring q ≡ true → set_of s.durable q ≡ false → q < length s.now.trace → (used q ≡ true) × (slice_get (listed g s n b) (count_below q used) ≡ Some q)
  listed_at q h d lt =
      let u : used q ≡ true = and_from (ring q) (any_below (suc q) (λ x. ring x && not (set_of s.durable x))) h (any_from (suc q) (λ x. ring x && not (set_of s.durable x)) q (omega arith) (and_from (ring q) (not (set_of s.durable q)) h (ap not d))) in
      (u, ap (λ xs. slice_get xs (count_below q used)) listed_is ∙ list_at (length s.now.trace) used q lt u)

  pub entry_at : (i p : ℕ) → slice_get (listed g s n b) i ≡ Some p → slice_get (entries g s n b) i ≡ Some (entry_of g s p)
  entry_at i p e = slice_get-map (entry_of g s) (listed g s n b) i ∙ ap (option_map (entry_of g s)) e

  -- the persist at a place of the list
  place : (i : ℕ) → i < length (entries g s n b) → (p : ℕ) × (slice_get (listed g s n b) i ≡ Some p) × (p < length s.now.trace) × (used p ≡ true) × (count_below p used ≡ i)
  place i lt =
      let inside : i < length (listed g s n b) = omega (arith, lt, length-map (listed g s n b) (entry_of g s)) in
      let e = slice_get-get_or (listed g s n b) i 0 inside in
      let r = list_get (length s.now.trace) used i (slice_index (listed g s n b) i) (ap (λ xs. slice_get xs i) (sym listed_is) ∙ e) in
      (slice_index (listed g s n b) i, e, r.0, r.1, r.2)

  ring_from : (p : ℕ) → used p ≡ true → ring p ≡ true
  ring_from p u = (and_parts (ring p) (any_below (suc p) (λ x. ring x && not (set_of s.durable x))) u).0

  is_persist_at : (p : ℕ) → ring p ≡ true → event_is is_persist s.now.trace p ≡ true
  is_persist_at p h = (and_parts (is_dispatched g s n p) (event_is is_persist s.now.trace p) (member p h).0).1

  pub buffered_open : (p : ℕ) → set_of s.buffered p ≡ true → set_of s.durable p ≡ false
  buffered_open p waits = false_from_ne_true (set_of s.durable p) (λ d. parts.apart.not_both p waits (inr d))

  -- an earlier persist of a member's strand is a member
  older_ring : (q p : ℕ) → ring p ≡ true → event_is is_persist s.now.trace q ≡ true → same_strand g.mode s.now.trace q p ≡ true → q < p → ring q ≡ true
  older_ring q p h persist strand lt =
      let m = member p h in
      let same = strand_parts g.mode s.now.trace q p strand in
      let taken = accepted_rank g s p (own p m.1 m.0) in
      let ranks = rank_earlier g.mode s.now.trace q p same.0 (omega (arith, lt)) in
      let counts : gone s (core_at s.now.trace q) ≡ gone s (core_at s.now.trace p) = ap (gone s) same.0 in
      let accepted = rank_accepted g s q persist (omega (arith, ranks, counts, taken.1)) in
      and_from (is_accepted g s n q) (buffer_of g (strand_number g.mode s.now.trace q) == b)
      (subst (λ m. is_accepted g s m q ≡ true) (same.0 ∙ m.1) accepted)
      (eq-eqb (buffer_of g (strand_number g.mode s.now.trace q)) b (ap (buffer_of g) same.1 ∙ m.2))

  is_there : (test : Entry → Bool) (i : ℕ) → entry_is test (entries g s n b) i ≡ true → i < length (entries g s n b)
  is_there test i h = elim (cases_lt i (length (entries g s n b))) [ inl lt ↦ lt | inr le ↦ absurd (true≢false (sym h ∙ ap (passes test) (slice_get_past (entries g s n b) i le))) ]

  -- a waiting persist at place i of the list
  module _ (i p : ℕ) (at : slice_get (listed g s n b) i ≡ Some p) (waits : set_of s.buffered p ≡ true) where
    p_in : (p < length s.now.trace) × (used p ≡ true) × (count_below p used ≡ i)
    p_in = list_get (length s.now.trace) used i p (ap (λ xs. slice_get xs i) (sym listed_is) ∙ at)

    p_open : set_of s.durable p ≡ false
    p_open = false_from_ne_true (set_of s.durable p) (λ d. parts.apart.not_both p waits (inr d))

    epoch_same : epoch_at (entries g s n b) i ≡ epoch g.mode s.now.trace p
    epoch_same = ap epoch_in (entry_at i p at)

    epochs_alike : entry_lists.epoch_waits (entries g s n b) i ≡ epoch_waits g s p
    epochs_alike = alike (entry_lists.epoch_waits (entries g s n b) i) (epoch_waits g s p)
        (λ h.
        let found = any_true (length (entries g s n b)) (λ x. entry_is is_open (entries g s n b) x && nat_lt (epoch_at (entries g s n b) x) (epoch_at (entries g s n b) i)) h in
        let x = found.0 in
        let both = and_parts (entry_is is_open (entries g s n b) x) (nat_lt (epoch_at (entries g s n b) x) (epoch_at (entries g s n b) i)) found.2 in
        let at_x = place x found.1 in
        let q = at_x.0 in
        let entry = entry_at x q at_x.1 in
        let undone = not-true (set_of s.durable q) (sym (stage_open q) ∙ sym (ap (passes is_open) entry) ∙ both.0) in
        let lower = ltb-true (epoch_at (entries g s n b) x) (epoch_at (entries g s n b) i) both.1 in
        let epoch_x : epoch_at (entries g s n b) x ≡ epoch g.mode s.now.trace q = ap epoch_in entry in
        let less : epoch g.mode s.now.trace q < epoch g.mode s.now.trace p = omega (arith, lower, epoch_x, epoch_same) in
        any_from (length s.now.trace) (λ q. is_lower g.mode s.now.trace (set_of s.durable) q p) q at_x.2
        (and_from (event_is is_persist s.now.trace q && same_strand g.mode s.now.trace q p && nat_lt (epoch g.mode s.now.trace q) (epoch g.mode s.now.trace p)) (not (set_of s.durable q))
        (and_from (event_is is_persist s.now.trace q && same_strand g.mode s.now.trace q p) (nat_lt (epoch g.mode s.now.trace q) (epoch g.mode s.now.trace p))
        (and_from (event_is is_persist s.now.trace q) (same_strand g.mode s.now.trace q p) (is_persist_at q (ring_from q at_x.3)) (one_strand q p (ring_from q at_x.3) undone (ring_from p p_in.1) p_open))
        (lt-ltb (epoch g.mode s.now.trace q) (epoch g.mode s.now.trace p) less)) (ap not undone)))
        (λ h.
        let found = any_true (length s.now.trace) (λ q. is_lower g.mode s.now.trace (set_of s.durable) q p) h in
        let q = found.0 in
        let one = and_parts (event_is is_persist s.now.trace q && same_strand g.mode s.now.trace q p && nat_lt (epoch g.mode s.now.trace q) (epoch g.mode s.now.trace p)) (not (set_of s.durable q)) found.2 in
        let two = and_parts (event_is is_persist s.now.trace q && same_strand g.mode s.now.trace q p) (nat_lt (epoch g.mode s.now.trace q) (epoch g.mode s.now.trace p)) one.0 in
        let three = and_parts (event_is is_persist s.now.trace q) (same_strand g.mode s.now.trace q p) two.0 in
        let undone = not-true (set_of s.durable q) one.1 in
        let less = ltb-true (epoch g.mode s.now.trace q) (epoch g.mode s.now.trace p) two.1 in
        let earlier : q < p = elim (cases_lt q p) [ inl lt ↦ lt | inr le ↦ absurd (omega (arith, less, epochs_rise g.mode s.now.trace p q (strand_flip g.mode s.now.trace q p three.1) le)) ] in
        let there = listed_at q (older_ring q p (ring_from p p_in.1) three.0 three.1 earlier) undone found.1 in
        let entry = entry_at (count_below q used) q there.1 in
        let epoch_q : epoch_at (entries g s n b) (count_below q used) ≡ epoch g.mode s.now.trace q = ap epoch_in entry in
        any_from (length (entries g s n b)) (λ x. entry_is is_open (entries g s n b) x && nat_lt (epoch_at (entries g s n b) x) (epoch_at (entries g s n b) i)) (count_below q used) (slice_get_within (entries g s n b) (count_below q used) (entry_of g s q) entry)
        (and_from (entry_is is_open (entries g s n b) (count_below q used)) (nat_lt (epoch_at (entries g s n b) (count_below q used)) (epoch_at (entries g s n b) i))
        (ap (passes is_open) entry ∙ stage_open q ∙ ap not undone) (lt-ltb (epoch_at (entries g s n b) (count_below q used)) (epoch_at (entries g s n b) i) (omega (arith, less, epoch_q, epoch_same)))))

    words_alike : entry_lists.word_waits (entries g s n b) i ≡ word_waits g s p
    words_alike = alike (entry_lists.word_waits (entries g s n b) i) (word_waits g s p)
        (λ h.
        let found = any_true i (λ x. entry_is is_buffered (entries g s n b) x && (entry_lists.word_at (entries g s n b) x == entry_lists.word_at (entries g s n b) i)) h in
        let x = found.0 in
        let both = and_parts (entry_is is_buffered (entries g s n b) x) (entry_lists.word_at (entries g s n b) x == entry_lists.word_at (entries g s n b) i) found.2 in
        let at_x = place x (is_there is_buffered x both.0) in
        let q = at_x.0 in
        let entry = entry_at x q at_x.1 in
        let waiting : set_of s.buffered q ≡ true = sym (stage_buffered q) ∙ sym (ap (passes is_buffered) entry) ∙ both.0 in
        let undone : set_of s.durable q ≡ false = buffered_open q waiting in
        let earlier : q < p = elim (cases_lt q p) [ inl lt ↦ lt | inr le ↦ absurd (omega (arith, found.1, at_x.4, p_in.2, count_mono p q used le)) ] in
        let word : word_at s.now.trace q ≡ word_at s.now.trace p = sym (ap entry_lists.word_in entry) ∙ eqb-true (entry_lists.word_at (entries g s n b) x) (entry_lists.word_at (entries g s n b) i) both.1 ∙ ap entry_lists.word_in (entry_at i p at) in
        any_from p (λ q. set_of s.buffered q && same_strand g.mode s.now.trace q p && (word_at s.now.trace q == word_at s.now.trace p)) q earlier
        (and_from (set_of s.buffered q && same_strand g.mode s.now.trace q p) (word_at s.now.trace q == word_at s.now.trace p)
        (and_from (set_of s.buffered q) (same_strand g.mode s.now.trace q p) waiting (one_strand q p (ring_from q at_x.3) undone (ring_from p p_in.1) p_open)) (eq-eqb (word_at s.now.trace q) (word_at s.now.trace p) word)))
        (λ h.
        let found = any_true p (λ q. set_of s.buffered q && same_strand g.mode s.now.trace q p && (word_at s.now.trace q == word_at s.now.trace p)) h in
        let q = found.0 in
        let one = and_parts (set_of s.buffered q && same_strand g.mode s.now.trace q p) (word_at s.now.trace q == word_at s.now.trace p) found.2 in
        let two = and_parts (set_of s.buffered q) (same_strand g.mode s.now.trace q p) one.0 in
        let accepted = (parts.together q).1 (inl two.0) in
        let persist = (accepted_rank g s q accepted).0 in
        let undone : set_of s.durable q ≡ false = buffered_open q two.0 in
        let there = listed_at q (older_ring q p (ring_from p p_in.1) persist two.1 found.1) undone (omega (arith, found.1, p_in.0)) in
        let entry = entry_at (count_below q used) q there.1 in
        let below : count_below q used < i = omega (arith, p_in.2, count_strict q q p used (omega arith) found.1 there.0) in
        any_from i (λ x. entry_is is_buffered (entries g s n b) x && (entry_lists.word_at (entries g s n b) x == entry_lists.word_at (entries g s n b) i)) (count_below q used) below
        (and_from (entry_is is_buffered (entries g s n b) (count_below q used)) (entry_lists.word_at (entries g s n b) (count_below q used) == entry_lists.word_at (entries g s n b) i)
        (ap (passes is_buffered) entry ∙ stage_buffered q ∙ two.0)
        (eq-eqb (entry_lists.word_at (entries g s n b) (count_below q used)) (entry_lists.word_at (entries g s n b) i)
        (ap entry_lists.word_in entry ∙ eqb-true (word_at s.now.trace q) (word_at s.now.trace p) one.1 ∙ sym (ap entry_lists.word_in (entry_at i p at))))))

  -- an eligible persist is in the list
  eligible_used : (p : ℕ) → p < length s.now.trace → is_eligible g s n b p ≡ true → used p ≡ true
  eligible_used p lt h =
      let ready = (and_parts (is_in_buffer g s n b p && not (epoch_waits g s p) && not (word_waits g s p)) (not (persist_unmet g.conflict g.mode s.now.trace (set_of s.durable) p)) h).0 in
      let inside = (and_parts (is_in_buffer g s n b p) (not (epoch_waits g s p)) (and_parts (is_in_buffer g s n b p && not (epoch_waits g s p)) (not (word_waits g s p)) ready).0).0 in
      let one = and_parts (set_of s.buffered p && (core_at s.now.trace p == n)) (buffer_of g (strand_number g.mode s.now.trace p) == b) inside in
      let two = and_parts (set_of s.buffered p) (core_at s.now.trace p == n) one.0 in
      let c = eqb-true (core_at s.now.trace p) n two.1 in
      let accepted : is_accepted g s n p ≡ true = subst (λ m. is_accepted g s m p ≡ true) c ((parts.together p).1 (inl two.0)) in
      (listed_at p (and_from (is_accepted g s n p) (buffer_of g (strand_number g.mode s.now.trace p) == b) accepted one.1) (buffered_open p two.0) lt).0

  module _ (durable : List ℕ) (meets : Meets g s durable) where
    eligible_alike : (i p : ℕ) → slice_get (listed g s n b) i ≡ Some p → entry_lists.is_eligible durable (entries g s n b) i ≡ is_eligible g s n b p
    eligible_alike i p at =
        let first : entry_is is_buffered (entries g s n b) i ≡ set_of s.buffered p = ap (passes is_buffered) (entry_at i p at) ∙ stage_buffered p in
        let met : entry_is (entry_lists.is_met_by durable) (entries g s n b) i ≡ not (persist_unmet g.conflict g.mode s.now.trace (set_of s.durable) p) = ap (passes (entry_lists.is_met_by durable)) (entry_at i p at) ∙ meets p in
        let in_list = list_get (length s.now.trace) used i p (ap (λ xs. slice_get xs i) (sym listed_is) ∙ at) in
        let m = member p (ring_from p in_list.1) in
        let held_in : is_in_buffer g s n b p ≡ set_of s.buffered p = told_in (set_of s.buffered p) (core_at s.now.trace p == n) (buffer_of g (strand_number g.mode s.now.trace p) == b) (eq-eqb (core_at s.now.trace p) n m.1) (eq-eqb (buffer_of g (strand_number g.mode s.now.trace p)) b m.2) in
        elim (cases_Bool (set_of s.buffered p)) [
          | inr no_ ↦
              none_of (entry_is is_buffered (entries g s n b) i) (not (entry_lists.epoch_waits (entries g s n b) i)) (not (entry_lists.word_waits (entries g s n b) i)) (entry_is (entry_lists.is_met_by durable) (entries g s n b) i) (first ∙ no_)
              ∙ sym (none_of (is_in_buffer g s n b p) (not (epoch_waits g s p)) (not (word_waits g s p)) (not (persist_unmet g.conflict g.mode s.now.trace (set_of s.durable) p)) (held_in ∙ no_))
          | inl yes_ ↦
              each_of (entry_is is_buffered (entries g s n b) i) (not (entry_lists.epoch_waits (entries g s n b) i)) (not (entry_lists.word_waits (entries g s n b) i)) (entry_is (entry_lists.is_met_by durable) (entries g s n b) i)
              (is_in_buffer g s n b p) (not (epoch_waits g s p)) (not (word_waits g s p)) (not (persist_unmet g.conflict g.mode s.now.trace (set_of s.durable) p))
              (first ∙ sym held_in) (ap not (epochs_alike i p at yes_)) (ap not (words_alike i p at yes_)) met
        ]

    -- the eligible persists are those at the eligible places of the list
    pub eligible_by_list : eligible g s n b ≡ map (slice_index (listed g s n b)) (eligible_places durable (entries g s n b))
    eligible_by_list =
        list_within (length s.now.trace) used (is_eligible g s n b) (entry_lists.is_eligible durable (entries g s n b)) eligible_used (λ i p e. eligible_alike i p (ap (λ xs. slice_get xs i) listed_is ∙ e))
        ∙ ap (λ xs. map (slice_index xs) (list_below (length xs) (entry_lists.is_eligible durable (entries g s n b)))) (sym listed_is)
        ∙ ap (λ k. map (slice_index (listed g s n b)) (list_below k (entry_lists.is_eligible durable (entries g s n b)))) (sym (length-map (listed g s n b) (entry_of g s)))
