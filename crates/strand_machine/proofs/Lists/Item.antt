-- Serves clause parts of Machine::step: what a dispatch does to the lists of the buffers.
use Rattle.std.proofs.Common.{◌≡◌, ℕ, zero, suc, ◌<◌, ◌≤◌, Bool, true, false, ◌&&◌, inl, inr, [], ◌∷◌, ◌++◌, length, map, refl, sym, ap, subst, ◌∙◌, arith}
use Rattle.std.specs.Prelude.{Some, nat_lt, slice_set, slice_get, ◌==◌, if◌then◌else◌}
use Rattle.std.proofs.lemmas.Bool.{cases_eq, cases_Bool, and_parts, and_from, lt-ltb, eqb-true, eq-eqb, ne_eqb, both_ways, false_from_ne_true}
use Rattle.std.proofs.lemmas.List.{map-append}
use Rattle.strand_base.specs.Counting.{count_below, list_below}
use Rattle.strand_base.proofs.BelowBound.{list_agree, at_or_below}
use Rattle.strand_inputs.specs.Settings.{Settings}
use Rattle.strand_events.specs.Trace.{is_persist, core_at, word_at, value_at, event_is, core_event_is, strand_number, epoch, persist_number}
use Rattle.strand_events.specs.Order.{set_of}
use Rattle.strand_rules.specs.Cycle.{State, is_item, gone, front, is_dispatched, is_accepted, buffer_of, item_after}
use Rattle.strand_rules.specs.DispatchedPersists.{AreParts}
use Rattle.strand_rules.proofs.Marks.{held_set, held_other}
use Rattle.strand_rules.proofs.Front.{found, accepted_past}
use Rattle.strand_rules.proofs.Buffers.RingItem.{one_more, accepted_other, accepted_apart}
use Rattle.strand_buffer.specs.declared.entry.Stage.{Stage}
use Rattle.strand_buffer.specs.declared.entry.Stage.TheVariants.{Buffered, Sent, Released}
use Rattle.strand_buffer.specs.Entries.{from_open}
use Rattle.strand_tags.specs.Traces.{noted_wait}
use Rattle.strand_machine.proofs.Lists.FromOpen.{open_more}
use Rattle.strand_machine.specs.Lists.{is_of_buffer, listed, stage_of, entry_of, entries}
use Rattle.strand_machine.proofs.Lists.SendWrite.{map_on, listed_member}

-- numbers below a bound that pass one test: those that pass the other, and one number more after them
pub list_one : (n k : ℕ) (old new : ℕ → Bool) → k < n → ((p : ℕ) → k ≤ p → old p ≡ false) → ((p : ℕ) → (p ≡ k → ⊥) → new p ≡ old p) → new k ≡ true → list_below n new ≡ list_below n old ++ k ∷ []
list_one zero k old new lt none same is = absurd (omega arith)
list_one (suc n) k old new lt none same is = elim (cases_eq n k) [
  | inl e ↦
      let here : new n ≡ true = ap new e ∙ is in
      let gone_ : old n ≡ false = none n (omega (arith, e)) in
      rw (here, gone_, e, list_agree k new old (λ p below. same p (λ e'. omega (arith, e')))) refl
  | inr ne ↦
      let out : old n ≡ false = none n (omega (arith, at_or_below lt (λ e. ne (sym e)))) in
      let out' : new n ≡ false = same n ne ∙ out in
      rw (out, out') (list_one n k old new (at_or_below lt (λ e. ne (sym e))) none same is)
]

pub list_same : (n : ℕ) (old new : ℕ → Bool) → ((p : ℕ) → new p ≡ old p) → list_below n new ≡ list_below n old
list_same n old new same = list_agree n new old (λ p lt. same p)

module _ (g : Settings) (s : State) (n k : ℕ) (first : front g s n ≡ Some k) (there : n < length s.dispatched) where
  abbrev then_ : State
  then_ = item_after s n (Some k)

  abbrev test : ℕ → Bool
  test p = core_event_is (is_item g.mode) n s.now.trace p

  pub k_test : test k ≡ true
  k_test = (found g s n k first).1

  -- k itself is accepted where it is a persist
  pub accepted_own : event_is is_persist s.now.trace k ≡ true → is_accepted g then_ n k ≡ true
  accepted_own is = and_from (is_dispatched g then_ n k) (event_is is_persist s.now.trace k)
      (and_from (test k) (nat_lt (count_below k test) (gone then_ n)) k_test (lt-ltb (count_below k test) (gone then_ n) (omega (arith, (found g s n k first).2, one_more g s n k first there)))) is

  -- the first item of the queue has no entry yet
  unlisted : (m b i q : ℕ) → slice_get (listed g s m b) i ≡ Some q → q ≡ k → ⊥
  unlisted m b i q e same =
      let is : is_accepted g s m k ≡ true = subst (λ x. is_accepted g s m x ≡ true) same ((and_parts (is_accepted g s m q) (buffer_of g (strand_number g.mode s.now.trace q) == b) ((listed_member g s m b i q e).1)).0) in
      let core_m = eqb-true (core_at s.now.trace k) m ((and_parts (event_is (is_item g.mode) s.now.trace k) (core_at s.now.trace k == m) ((and_parts (core_event_is (is_item g.mode) m s.now.trace k) _ ((and_parts (is_dispatched g s m k) _ is).0)).0)).1) in
      let core_n = eqb-true (core_at s.now.trace k) n ((and_parts (event_is (is_item g.mode) s.now.trace k) (core_at s.now.trace k == n) k_test).1) in
      both_ways (is_accepted g s n k) (accepted_past g s n k first k (omega arith)) (subst (λ x. is_accepted g s x k ≡ true) (sym core_m ∙ core_n) is)

  entry_other : (q : ℕ) → (q ≡ k → ⊥) → entry_of g then_ q ≡ entry_of g s q
  entry_other q ne =
      let same : stage_of then_ q ≡ stage_of s q = elim (cases_Bool (event_is is_persist s.now.trace k)) [
        | inl yes_ ↦ rw yes_ (ap (λ b. if set_of s.durable q then Released else if b then Buffered else Sent) (held_other s.buffered k true q ne))
        | inr no_ ↦ rw no_ refl
      ] in
      ap (λ (x : Stage). record (entry_of g s q) { stage = x }) same

  -- a list whose members stay has its entries
  same_entries : (m b : ℕ) → ((p : ℕ) → is_of_buffer g then_ m b p ≡ is_of_buffer g s m b p) → entries g then_ m b ≡ entries g s m b
  same_entries m b same =
      ap (λ xs. map (entry_of g then_) (from_open (set_of s.durable) xs)) (list_same (length s.now.trace) (is_of_buffer g s m b) (is_of_buffer g then_ m b) same)
      ∙ map_on (entry_of g then_) (entry_of g s) (listed g s m b) (λ i q e. entry_other q (unlisted m b i q e))

  -- another core's lists stay
  pub entries_of_others : (m b : ℕ) → (m ≡ n → ⊥) → entries g then_ m b ≡ entries g s m b
  entries_of_others m b ne = same_entries m b (λ p. ap (λ x. x && (buffer_of g (strand_number g.mode s.now.trace p) == b)) (accepted_apart g s n k first there m p ne))

  -- an item that is no persist changes no list
  pub entries_of_item : event_is is_persist s.now.trace k ≡ false → (b : ℕ) → entries g then_ n b ≡ entries g s n b
  entries_of_item no_ b = same_entries n b (λ p. ap (λ x. x && (buffer_of g (strand_number g.mode s.now.trace p) == b)) (elim (cases_eq p k) [
    | inl e ↦ rw e (none_after then_ ∙ sym (none_after s))
    | inr ne ↦ accepted_other g s n k first there p ne
  ]))
    where
      none_after : (x : State) → is_accepted g (record s { dispatched = x.dispatched }) n k ≡ false
      none_after x = false_from_ne_true (is_accepted g (record s { dispatched = x.dispatched }) n k) (λ h. both_ways (event_is is_persist s.now.trace k) no_ ((and_parts (is_dispatched g (record s { dispatched = x.dispatched }) n k) (event_is is_persist s.now.trace k) h).1))

  module _ (parts : AreParts g s) (is : event_is is_persist s.now.trace k ≡ true) (inside : k < length s.buffered) where
    k_undone : set_of s.durable k ≡ false
    k_undone = false_from_ne_true (set_of s.durable k) (λ d.
        let core_n = eqb-true (core_at s.now.trace k) n ((and_parts (event_is (is_item g.mode) s.now.trace k) (core_at s.now.trace k == n) k_test).1) in
        both_ways (is_accepted g s n k) (accepted_past g s n k first k (omega arith)) (subst (λ x. is_accepted g s x k ≡ true) core_n ((parts.together k).1 (inr (inr d)))))

    entry_own : entry_of g then_ k ≡ record { number = persist_number s.now.trace k; word = word_at s.now.trace k; value = value_at s.now.trace k; epoch = epoch g.mode s.now.trace k; wait = noted_wait g.conflict g.mode s.now.trace k; stage = Buffered }
    entry_own =
        let now : set_of (slice_set s.buffered k true) k ≡ true = held_set s.buffered k true inside in
        let stage : stage_of then_ k ≡ Buffered = rw (is, k_undone, now) refl in
        ap (λ (x : Stage). record (entry_of g s k) { stage = x }) stage

    -- another buffer's list stays
    pub entries_apart : (b : ℕ) → (buffer_of g (strand_number g.mode s.now.trace k) ≡ b → ⊥) → entries g then_ n b ≡ entries g s n b
    entries_apart b ne = same_entries n b (λ p. elim (cases_eq p k) [
      | inr other ↦ ap (λ x. x && (buffer_of g (strand_number g.mode s.now.trace p) == b)) (accepted_other g s n k first there p other)
      | inl e ↦ rw e (apart_false (is_accepted g then_ n k) _ (ne_eqb (buffer_of g (strand_number g.mode s.now.trace k)) b ne) ∙ sym (apart_false (is_accepted g s n k) _ (ne_eqb (buffer_of g (strand_number g.mode s.now.trace k)) b ne)))
    ])
      where
        apart_false : (x y : Bool) → y ≡ false → (x && y) ≡ false
        apart_false true y e = e
        apart_false false y e = refl

    -- a persist comes to the end of its buffer's list
    pub entries_accepted : entries g then_ n (buffer_of g (strand_number g.mode s.now.trace k))
        ≡ entries g s n (buffer_of g (strand_number g.mode s.now.trace k)) ++ record { number = persist_number s.now.trace k; word = word_at s.now.trace k; value = value_at s.now.trace k; epoch = epoch g.mode s.now.trace k; wait = noted_wait g.conflict g.mode s.now.trace k; stage = Buffered } ∷ []
    entries_accepted =
        let b : ℕ = buffer_of g (strand_number g.mode s.now.trace k) in
        let members : list_below (length s.now.trace) (is_of_buffer g then_ n b) ≡ list_below (length s.now.trace) (is_of_buffer g s n b) ++ k ∷ [] =
        list_one (length s.now.trace) k (is_of_buffer g s n b) (is_of_buffer g then_ n b) ((found g s n k first).0)
        (λ p le. rw (accepted_past g s n k first p le) refl)
        (λ p other. ap (λ x. x && (buffer_of g (strand_number g.mode s.now.trace p) == b)) (accepted_other g s n k first there p other))
        (and_from (is_accepted g then_ n k) (b == b) (accepted_own is) (eq-eqb b b refl)) in
        ap (λ xs. map (entry_of g then_) (from_open (set_of s.durable) xs)) members
        ∙ ap (map (entry_of g then_)) (open_more (set_of s.durable) (list_below (length s.now.trace) (is_of_buffer g s n b)) k k_undone)
        ∙ map-append (entry_of g then_) (listed g s n b) (k ∷ [])
        ∙ cc (map_on (entry_of g then_) (entry_of g s) (listed g s n b) (λ i q e. entry_other q (unlisted n b i q e)), entry_own)
