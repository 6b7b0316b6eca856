-- Serves clauses closed and joined of durable_sets_are_allowed: one more durable persist keeps the order.
use Rattle.std.proofs.Common.{◌≡◌, ℕ, zero, suc, ◌<◌, ◌≤◌, true, ◌⊎◌, inl, inr, List, [], ◌∷◌, Some, refl, sym, ap, subst, ◌∙◌, arith}
use Rattle.std.specs.Prelude.{slice_get, remove}
use Rattle.std.proofs.lemmas.Bool.{cases_eq, cases_order, cases_lt}
use Rattle.std.proofs.lemmas.Option.{same_Some}
use Rattle.strand_inputs.specs.declared.mode.Mode.{Mode}
use Rattle.strand_events.specs.declared.event.Event.{Event}
use Rattle.strand_events.specs.Trace.{is_access, word_at, event_is}
use Rattle.strand_events.specs.Order.{Set}
use Rattle.strand_rules.specs.DispatchedPersists.{IsInSomePart, Sent, InFlight, Older}
use Rattle.strand_rules.proofs.Sets.{with_, with_cases, with_same, with_old}
use Rattle.strand_inputs.specs.declared.conflict.Conflict.{Conflict}
use Rattle.strand_inputs.specs.declared.conflict.Conflict.TheVariants.{Stall}
use Rattle.strand_events.proofs.Waits.Counts.{IsMet}
use Rattle.strand_rules.proofs.Order.Sets.Invariant.{Ordered}

-- the elements after one is removed
removed_below : {X : Type 0} (xs : List X) (j i : ℕ) → i < j → slice_get (remove xs j) i ≡ slice_get xs i
removed_below [] zero i lt = refl
removed_below [] (suc j) i lt = refl
removed_below (x ∷ xs) zero i lt = absurd (omega arith)
removed_below (x ∷ xs) (suc j) zero lt = refl
removed_below (x ∷ xs) (suc j) (suc i) lt = removed_below xs j i (omega arith)

removed_above : {X : Type 0} (xs : List X) (j i : ℕ) → j ≤ i → slice_get (remove xs j) i ≡ slice_get xs (suc i)
removed_above [] zero i le = refl
removed_above [] (suc j) i le = refl
removed_above (x ∷ xs) zero i le = refl
removed_above (x ∷ xs) (suc j) zero le = absurd (omega arith)
removed_above (x ∷ xs) (suc j) (suc i) le = removed_above xs j i (omega arith)

module _ (flight : List ℕ) (j : ℕ) where
  -- where a request that is left stood before
  pub left_place : (i x : ℕ) → slice_get (remove flight j) i ≡ Some x → ((i < j) × (slice_get flight i ≡ Some x)) ⊎ ((j ≤ i) × (slice_get flight (suc i) ≡ Some x))
  left_place i x at = elim (cases_lt i j) [
    | inl lt ↦ inl (lt, sym (removed_below flight j i lt) ∙ at)
    | inr ge ↦ inr (ge, sym (removed_above flight j i ge) ∙ at)
  ]

  pub was_in_flight : (x : ℕ) → InFlight (remove flight j) x → InFlight flight x
  was_in_flight x (i, at) = elim (left_place i x at) [ inl (lt, is) ↦ (i, is) | inr (ge, is) ↦ (suc i, is) ]

module _ (conflict : Conflict) (mode : Mode) (t : List Event) (dispatched : ℕ → ℕ) (buffered : Set) (flight : List ℕ) (durable : Set) (kept : Ordered conflict mode t dispatched buffered flight durable) (j p : ℕ) (at_j : slice_get flight j ≡ Some p) (alone : (h x : ℕ) → h < j → slice_get flight h ≡ Some x → word_at t x ≡ word_at t p → ⊥) where
  still_in_flight : (x : ℕ) → (x ≡ p → ⊥) → InFlight flight x → InFlight (remove flight j) x
  still_in_flight x ne (zero, at) = elim (cases_eq 0 j) [
    | inl e ↦ absurd (ne (same_Some x p (sym at ∙ ap (slice_get flight) e ∙ at_j)))
    | inr above ↦ let lt : 0 < j = grind arith in (0, removed_below flight j 0 lt ∙ at)
  ]
  still_in_flight x ne (suc i, at) = elim (cases_order (suc i) j) [
    | inl e ↦ absurd (ne (same_Some x p (sym at ∙ ap (slice_get flight) e ∙ at_j)))
    | inr others ↦ elim others [
      | inl lt ↦ (suc i, removed_below flight j (suc i) lt ∙ at)
      | inr gt ↦ let ge : j ≤ i = omega arith in (i, removed_above flight j i ge ∙ at)
    ]
  ]

  was_held : (x : ℕ) → IsInSomePart buffered (remove flight j) (with_ p durable) x → IsInSomePart buffered flight durable x
  was_held x (inl b) = inl b
  was_held x (inr (inl f)) = inr (inl (was_in_flight flight j x f))
  was_held x (inr (inr d)) = elim (with_cases p durable x d) [ inl e ↦ inr (inl (j, at_j ∙ ap Some (sym e))) | inr old ↦ inr (inr old) ]

  still_held : (x : ℕ) → IsInSomePart buffered flight durable x → IsInSomePart buffered (remove flight j) (with_ p durable) x
  still_held x (inl b) = inl b
  still_held x (inr (inl f)) = elim (cases_eq x p) [ inl e ↦ inr (inr (with_same p durable x e)) | inr ne ↦ inr (inl (still_in_flight x ne f)) ]
  still_held x (inr (inr d)) = inr (inr (with_old p durable x d))

  was_sent : (q : ℕ) → Sent (remove flight j) (with_ p durable) q → Sent flight durable q
  was_sent q (inl f) = inl (was_in_flight flight j q f)
  was_sent q (inr d) = elim (with_cases p durable q d) [ inl e ↦ inl (j, at_j ∙ ap Some (sym e)) | inr old ↦ inr old ]

  must_be_met : (b : ℕ) → (conflict ≡ Stall) ⊎ Sent (remove flight j) (with_ p durable) b → (conflict ≡ Stall) ⊎ Sent flight durable b
  must_be_met b (inl stall) = inl stall
  must_be_met b (inr sent) = inr (was_sent b sent)

  met' : (b : ℕ) → event_is is_access t b ≡ true → (conflict ≡ Stall) ⊎ Sent (remove flight j) (with_ p durable) b → IsMet mode t (with_ p durable) b
  met' b is must x isx counted = with_old p durable x (kept.met b is (must_be_met b must) x isx counted)

  older' : (x q : ℕ) → with_ p durable q ≡ true → Older mode t x q → with_ p durable x ≡ true
  older' x q d o = elim (with_cases p durable q d) [
    | inl e ↦ elim (kept.in_flight j x p at_j (subst (λ y. Older mode t x y) e o)) [
      | inl done ↦ with_old p durable x done
      | inr (h, lt, at) ↦ absurd (alone h x lt at (o.word ∙ ap (word_at t) e))
    ]
    | inr old ↦ with_old p durable x (kept.older x q old o)
  ]

  -- a request that stood before place i stands before it still, or was the one written
  moved : (i h x : ℕ) → h < i → slice_get flight h ≡ Some x → (i' : ℕ) → ((i ≡ i') × (i < j)) ⊎ ((i ≡ suc i') × (j ≤ i')) → (with_ p durable x ≡ true) ⊎ ((g : ℕ) × (g < i') × (slice_get (remove flight j) g ≡ Some x))
  moved i h x lt at i' (inl (same, below)) = let near : h < i' = omega arith in let early : h < j = omega arith in inr (h, near, removed_below flight j h early ∙ at)
  moved i zero x lt at i' (inr (same, above)) = elim (cases_eq 0 j) [
    | inl e ↦ inl (with_same p durable x (same_Some x p (sym at ∙ ap (slice_get flight) e ∙ at_j)))
    | inr ne ↦ let early : 0 < j = grind arith in let near : 0 < i' = omega arith in inr (0, near, removed_below flight j 0 early ∙ at)
  ]
  moved i (suc h) x lt at i' (inr (same, above)) = elim (cases_order (suc h) j) [
    | inl e ↦ inl (with_same p durable x (same_Some x p (sym at ∙ ap (slice_get flight) e ∙ at_j)))
    | inr others ↦ elim others [
      | inl early ↦ let near : suc h < i' = omega arith in inr (suc h, near, removed_below flight j (suc h) early ∙ at)
      | inr late ↦ let near : h < i' = omega arith in let ge : j ≤ h = omega arith in inr (h, near, removed_above flight j h ge ∙ at)
    ]
  ]

  in_flight' : (i x q : ℕ) → slice_get (remove flight j) i ≡ Some q → Older mode t x q → (with_ p durable x ≡ true) ⊎ ((h : ℕ) × (h < i) × (slice_get (remove flight j) h ≡ Some x))
  in_flight' i x q at o = elim (left_place flight j i q at) [
    | inl (lt, is) ↦ elim (kept.in_flight i x q is o) [ inl d ↦ inl (with_old p durable x d) | inr (h, less, there) ↦ moved i h x less there i (inl (refl, lt)) ]
    | inr (ge, is) ↦ elim (kept.in_flight (suc i) x q is o) [ inl d ↦ inl (with_old p durable x d) | inr (h, less, there) ↦ moved (suc i) h x less there i (inr (refl, ge)) ]
  ]

  pub writes : Ordered conflict mode t dispatched buffered (remove flight j) (with_ p durable)
  writes = record {
    met = met';
    drained = λ x joined. with_old p durable x (kept.drained x joined);
    persists = λ x a. kept.persists x (was_held x a);
    within = kept.within;
    ranked = λ x a. kept.ranked x (was_held x a);
    taken = λ x is below. still_held x (kept.taken x is below);
    lower = λ x q sent l. with_old p durable x (kept.lower x q (was_sent q sent) l);
    older = older';
    in_flight = in_flight';
  }
