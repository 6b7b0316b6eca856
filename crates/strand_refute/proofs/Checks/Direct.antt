-- Serves check, by comes_directly_before: the order of a core's accesses by strands, epochs and last joins.
use Rattle.std.proofs.Common.{◌≡◌, ℕ, suc, ◌+◌, ◌<◌, ◌≤◌, Bool, true, false, ◌&&◌, ◌||◌, ◌⊎◌, inl, inr, List, Option, Some, refl, sym, ap, ◌∙◌, arith, cond}
use Rattle.std.specs.Prelude.{◌==◌, nat_lt, not, slice_get}
use Rattle.std.specs.Cmp.{both_ways as same_test}
use Rattle.std.proofs.lemmas.Bool.{cases_Bool, or_left, true≢false, eqb-true, ltb-true, lt-ltb, le-ltb}
use Rattle.strand_inputs.specs.declared.mode.Mode.{Mode}
use Rattle.strand_inputs.specs.declared.mode.Mode.TheVariants.{Strict, Epoch, Strand}
use Rattle.strand_events.specs.declared.event.Event.{Event}
use Rattle.strand_events.specs.Trace.{is_access, is_store, is_barrier, is_new_strand, is_join, is_barrier_or_join, core_of, core_in, word_of, word_in, passes, core_at, event_is, same_strand, strand_number, epoch}
use Rattle.strand_events.specs.Joins.{join_end}
use Rattle.strand_events.specs.Order.{conflicts, stands_between, core_orders, directly_before}
use Rattle.strand_events.proofs.Joins.{join_later}
use Rattle.strand_events.proofs.PersistOrder.Epochs.{weaker, join_either, strand_from, between_parts, between_from}
use Rattle.strand_events.proofs.PersistOrder.Laws.{epochs_order, strands_join}
use Rattle.strand_refute.specs.Facts.{ordered_by_numbers}

module _ (t : List Event) (a b : ℕ) where
  -- a join between two accesses orders them
  join_orders : (mode : Mode) (core : ℕ) → stands_between is_join core t a b ≡ true → core_orders mode core t a b ≡ true
  join_orders Strict core h = refl
  join_orders Epoch core h = let k = between_parts is_join core t a b h in between_from is_barrier_or_join core t a b k.0 k.1 k.2 (weaker is_join is_barrier_or_join join_either t k.0 k.3) k.4
  join_orders Strand core h = or_left (stands_between is_join core t a b) (stands_between is_barrier core t a b && not (stands_between is_new_strand core t a b)) h

  pub by_numbers : (mode : Mode) → a < b → event_is is_access t a ≡ true → core_at t a ≡ core_at t b → core_orders mode (core_at t a) t a b ≡ ordered_by_numbers mode t a b
  by_numbers mode lt x core =
      let here = λ (c : Bool) (same : (strand_number mode t a == strand_number mode t b) ≡ c). ap (λ y. cond y (nat_lt (epoch mode t a) (epoch mode t b)) (nat_lt (suc a) (join_end (core_at t b) t b))) (sym same) in
      elim (cases_Bool (strand_number mode t a == strand_number mode t b)) [
        | inl same ↦
            let strand = strand_from mode t a b core (eqb-true (strand_number mode t a) (strand_number mode t b) same) in
            let law = epochs_order mode t a b lt x strand in
            same_test (core_orders mode (core_at t a) t a b) (nat_lt (epoch mode t a) (epoch mode t b)) (λ h. lt-ltb (epoch mode t a) (epoch mode t b) (law.0 h)) (λ h. law.1 (ltb-true (epoch mode t a) (epoch mode t b) h)) ∙ here true same
        | inr other ↦
            let apart : same_strand mode t a b ≡ false = ap (λ y. (core_at t a == core_at t b) && y) other ∙ none (core_at t a == core_at t b) in
            let later : stands_between is_join (core_at t a) t a b ≡ nat_lt (suc a) (join_end (core_at t b) t b) = join_later (core_at t a) t a b ∙ ap (λ n. nat_lt n (join_end (core_at t a) t b)) (plus_one a) ∙ ap (λ c. nat_lt (suc a) (join_end c t b)) core in
            same_test (core_orders mode (core_at t a) t a b) (nat_lt (suc a) (join_end (core_at t b) t b)) (λ h. sym later ∙ strands_join mode t a b lt x core apart h) (λ h. join_orders mode (core_at t a) (later ∙ h)) ∙ here false other
      ]
    where
      none : (y : Bool) → (y && false) ≡ false
      none true = refl
      none false = refl

      plus_one : (n : ℕ) → n + 1 ≡ suc n
      plus_one n = omega arith

  none_of : (p q r s : Bool) → (p ≡ false) ⊎ ((q ≡ false) ⊎ (r ≡ false)) → (p && q && r && s) ≡ false
  none_of false q r s h = refl
  none_of true false r s h = refl
  none_of true true false s h = refl
  none_of true true true s (inl h) = absurd (true≢false h)
  none_of true true true s (inr (inl h)) = absurd (true≢false h)
  none_of true true true s (inr (inr h)) = absurd (true≢false h)

  conflict_in : Option Event → Option Event → Bool
  conflict_in o p = passes is_access o && passes is_access p && (word_in o == word_in p) && (passes is_store o || passes is_store p)

  same_and : (y : Bool) (p q : Bool) → (y ≡ true → p ≡ q) → (y && p) ≡ (y && q)
  same_and true p q h = h refl
  same_and false p q h = refl

  module _ (mode : Mode) (e f : Event) (at : slice_get t a ≡ Some e) (to : slice_get t b ≡ Some f) where
    -- an event is no access, or not the earlier one
    pub not_direct : (b ≤ a) ⊎ ((is_access e ≡ false) ⊎ (is_access f ≡ false)) → directly_before mode t a b ≡ false
    not_direct why = none_of (nat_lt a b) (event_is is_access t a) (event_is is_access t b) (conflicts t a b || ((core_at t a == core_at t b) && core_orders mode (core_at t a) t a b)) (which why)
      where
        which : (b ≤ a) ⊎ ((is_access e ≡ false) ⊎ (is_access f ≡ false)) → (nat_lt a b ≡ false) ⊎ ((event_is is_access t a ≡ false) ⊎ (event_is is_access t b ≡ false))
        which (inl le) = inl (le-ltb a b le)
        which (inr (inl none)) = inr (inl (ap (passes is_access) at ∙ none))
        which (inr (inr none)) = inr (inr (ap (passes is_access) to ∙ none))

    -- two accesses, of which a is the earlier
    pub direct_is : a < b → is_access e ≡ true → is_access f ≡ true → directly_before mode t a b ≡ ((is_access e && is_access f && (word_of e == word_of f) && (is_store e || is_store f)) || ((core_of e == core_of f) && ordered_by_numbers mode t a b))
    unfolding conflict_in
    direct_is lt x y =
        let is : event_is is_access t a ≡ true = ap (passes is_access) at ∙ x in
        let is' : event_is is_access t b ≡ true = ap (passes is_access) to ∙ y in
        let own : Bool = core_orders mode (core_at t a) t a b in
        let rest : Bool = conflicts t a b || ((core_at t a == core_at t b) && own) in
        let word : conflicts t a b ≡ (is_access e && is_access f && (word_of e == word_of f) && (is_store e || is_store f)) = ap (λ o. conflict_in o (slice_get t b)) at ∙ ap (conflict_in (Some e)) to in
        let core : (core_at t a == core_at t b) ≡ (core_of e == core_of f) = ap (λ o. core_in o == core_at t b) at ∙ ap (λ o. core_of e == core_in o) to in
        let ordered : ((core_at t a == core_at t b) && own) ≡ ((core_of e == core_of f) && ordered_by_numbers mode t a b) =
        same_and (core_at t a == core_at t b) own (ordered_by_numbers mode t a b) (λ h. by_numbers mode lt is (eqb-true (core_at t a) (core_at t b) h)) ∙ ap (λ c. c && ordered_by_numbers mode t a b) core
        in
        ap (λ p. p && event_is is_access t a && event_is is_access t b && rest) (lt-ltb a b lt) ∙ ap (λ p. p && event_is is_access t b && rest) is ∙ ap (λ p. p && rest) is'
        ∙ ap (λ c. c || ((core_at t a == core_at t b) && own)) word ∙ ap (λ o. (is_access e && is_access f && (word_of e == word_of f) && (is_store e || is_store f)) || o) ordered
