-- Serves clauses closed and joined of durable_sets_are_allowed: one more request in flight keeps the order.
use Rattle.std.proofs.Common.{◌≡◌, ℕ, ◌<◌, true, ◌⊎◌, inl, inr, List, [], ◌∷◌, ◌++◌, length, Some, sym, ap, subst, ◌∙◌, arith, length-append}
use Rattle.std.specs.Prelude.{slice_get}
use Rattle.std.proofs.lemmas.Bool.{cases_eq}
use Rattle.std.proofs.lemmas.Option.{slice_get_within, same_Some}
use Rattle.strand_inputs.specs.declared.mode.Mode.{Mode}
use Rattle.strand_events.specs.declared.event.Event.{Event}
use Rattle.strand_base.proofs.BelowBound.{get_more, get_last, at_or_below}
use Rattle.strand_events.specs.Trace.{is_access, core_at, event_is}
use Rattle.strand_events.specs.Order.{Set}
use Rattle.strand_events.proofs.PersistOrder.Epochs.{strand_parts}
use Rattle.strand_rules.specs.DispatchedPersists.{IsInSomePart, Sent, InFlight, Older, Lower}
use Rattle.strand_inputs.specs.declared.conflict.Conflict.{Conflict}
use Rattle.strand_inputs.specs.declared.conflict.Conflict.TheVariants.{Stall}
use Rattle.strand_events.proofs.Waits.Counts.{IsMet}
use Rattle.strand_rules.proofs.Order.Sets.Invariant.{Ordered}
use Rattle.strand_rules.proofs.Ranks.{rank, rank_earlier}
use Rattle.strand_rules.proofs.Sets.{without, without_old, without_other}

module _ (conflict : Conflict) (mode : Mode) (t : List Event) (dispatched : ℕ → ℕ) (buffered : Set) (flight : List ℕ) (durable : Set) (kept : Ordered conflict mode t dispatched buffered flight durable) where
  module _ (p : ℕ) (is : buffered p ≡ true) (own : IsMet mode t durable p) (epochs : (x : ℕ) → Lower mode t x p → durable x ≡ true) (words : (x : ℕ) → Older mode t x p → buffered x ≡ true → ⊥) where
    in_new_flight : (x : ℕ) → InFlight (flight ++ p ∷ []) x → (x ≡ p) ⊎ InFlight flight x
    in_new_flight x (i, at) = elim (cases_eq i (length flight)) [
      | inl e ↦ inl (same_Some x p (sym at ∙ ap (slice_get (flight ++ p ∷ [])) e ∙ get_last flight p))
      | inr ne ↦
          let within : i < length (flight ++ p ∷ []) = slice_get_within (flight ++ p ∷ []) i x at in
          let lt : i < length flight = at_or_below (omega (arith, within, length-append flight (p ∷ []))) ne in
          inr (i, sym (get_more flight p i lt) ∙ at)
    ]

    still_in_flight : (x : ℕ) → InFlight flight x → InFlight (flight ++ p ∷ []) x
    still_in_flight x (i, at) = (i, get_more flight p i (slice_get_within flight i x at) ∙ at)

    was_held : (x : ℕ) → IsInSomePart (without p buffered) (flight ++ p ∷ []) durable x → IsInSomePart buffered flight durable x
    was_held x (inl b) = inl (without_old p buffered x b)
    was_held x (inr (inl f)) = elim (in_new_flight x f) [ inl e ↦ inl (ap buffered e ∙ is) | inr old ↦ inr (inl old) ]
    was_held x (inr (inr d)) = inr (inr d)

    still_held : (x : ℕ) → IsInSomePart buffered flight durable x → IsInSomePart (without p buffered) (flight ++ p ∷ []) durable x
    still_held x (inl b) = elim (cases_eq x p) [ inl e ↦ inr (inl (length flight, get_last flight p ∙ ap Some (sym e))) | inr ne ↦ inl (without_other p buffered x ne b) ]
    still_held x (inr (inl f)) = inr (inl (still_in_flight x f))
    still_held x (inr (inr d)) = inr (inr d)

    met' : (b : ℕ) → event_is is_access t b ≡ true → (conflict ≡ Stall) ⊎ Sent (flight ++ p ∷ []) durable b → IsMet mode t durable b
    met' b is' (inl stall) = kept.met b is' (inl stall)
    met' b is' (inr (inr d)) = kept.met b is' (inr (inr d))
    met' b is' (inr (inl f)) = elim (in_new_flight b f) [ inl e ↦ subst (λ x. IsMet mode t durable x) (sym e) own | inr old ↦ kept.met b is' (inr (inl old)) ]

    lower' : (x q : ℕ) → Sent (flight ++ p ∷ []) durable q → Lower mode t x q → durable x ≡ true
    lower' x q (inl f) l = elim (in_new_flight q f) [ inl e ↦ epochs x (subst (λ y. Lower mode t x y) e l) | inr old ↦ kept.lower x q (inl old) l ]
    lower' x q (inr d) l = kept.lower x q (inr d) l

    -- an older persist of the word was dispatched, and isn't buffered
    before_it : (x : ℕ) → Older mode t x p → (durable x ≡ true) ⊎ ((h : ℕ) × (h < length flight) × (slice_get (flight ++ p ∷ []) h ≡ Some x))
    before_it x o =
        let c : core_at t x ≡ core_at t p = (strand_parts mode t x p o.strand).0 in
        let below : rank mode t x < dispatched (core_at t x) = omega (arith, rank_earlier mode t x p c (omega (arith, o.earlier)), kept.ranked p (inl is), ap dispatched c) in
        elim (kept.taken x o.persist below) [
          | inl b ↦ absurd (words x o b)
          | inr s ↦ elim s [
            | inl (h, at) ↦ let lt : h < length flight = slice_get_within flight h x at in inr (h, lt, get_more flight p h lt ∙ at)
            | inr d ↦ inl d
          ]
        ]

    in_flight' : (i x q : ℕ) → slice_get (flight ++ p ∷ []) i ≡ Some q → Older mode t x q → (durable x ≡ true) ⊎ ((h : ℕ) × (h < i) × (slice_get (flight ++ p ∷ []) h ≡ Some x))
    in_flight' i x q at o = elim (cases_eq i (length flight)) [
      | inl e ↦
          let same : q ≡ p = same_Some q p (sym at ∙ ap (slice_get (flight ++ p ∷ [])) e ∙ get_last flight p) in
          elim (before_it x (subst (λ y. Older mode t x y) same o)) [ inl d ↦ inl d | inr (h, lt, is') ↦ let lt' : h < i = omega (arith, e) in inr (h, lt', is') ]
      | inr ne ↦
          let within : i < length (flight ++ p ∷ []) = slice_get_within (flight ++ p ∷ []) i q at in
          let lt : i < length flight = at_or_below (omega (arith, within, length-append flight (p ∷ []))) ne in
          elim (kept.in_flight i x q (sym (get_more flight p i lt) ∙ at) o) [
            | inl d ↦ inl d
            | inr (h, less, is') ↦ let in_old : h < length flight = omega arith in inr (h, less, get_more flight p h in_old ∙ is')
          ]
    ]

    pub sends : Ordered conflict mode t dispatched (without p buffered) (flight ++ p ∷ []) durable
    sends = record {
      met = met';
      drained = kept.drained;
      persists = λ x a. kept.persists x (was_held x a);
      within = kept.within;
      ranked = λ x a. kept.ranked x (was_held x a);
      taken = λ x is' below. still_held x (kept.taken x is' below);
      lower = lower';
      older = kept.older;
      in_flight = in_flight';
    }
