-- Serves clause parts of parts_are_kept: a dispatch, a send and a write keep the parts apart.
-- The buffered set, the flight list and the durable set have no persist in common, and the flight list has no repeats.
use Rattle.std.proofs.Common.{◌≡◌, ℕ, suc, ◌<◌, true, ◌⊎◌, inl, inr, List, [], ◌∷◌, ◌++◌, length, Some, sym, ap, subst, ◌∙◌, arith, length-append}
use Rattle.std.specs.Prelude.{slice_get, remove, not, ◌==◌}
use Rattle.std.proofs.lemmas.Bool.{cases_eq, and_parts, eq-eqb, both_ways, not-true}
use Rattle.std.proofs.lemmas.Option.{same_Some, slice_get_within}
use Rattle.strand_events.specs.Order.{Set}
use Rattle.strand_base.proofs.BelowBound.{get_more, get_last, at_or_below}
use Rattle.strand_rules.specs.DispatchedPersists.{InFlight, Sent, AreApart}
use Rattle.strand_rules.proofs.Sets.{with_, without, with_cases, without_old}
use Rattle.strand_rules.proofs.Order.Sets.Write.{left_place, was_in_flight}

module _ (buffered : Set) (flight : List ℕ) (durable : Set) (apart : AreApart buffered flight durable) where
  pub dispatch_apart : (k : ℕ) → (Sent flight durable k → ⊥) → (buffered' : Set) → ((p : ℕ) → buffered' p ≡ true → (p ≡ k) ⊎ (buffered p ≡ true)) → AreApart buffered' flight durable
  dispatch_apart k fresh buffered' from = record {
    one_place = apart.one_place;
    not_both = λ p b sent. elim (from p b) [ inl e ↦ fresh (subst (λ x. Sent flight durable x) e sent) | inr old ↦ apart.not_both p old sent ];
    not_done = apart.not_done;
  }

  module _ (p : ℕ) (is : buffered p ≡ true) where
    sent_place : (i x : ℕ) → slice_get (flight ++ p ∷ []) i ≡ Some x → ((i ≡ length flight) × (x ≡ p)) ⊎ ((i < length flight) × (slice_get flight i ≡ Some x))
    sent_place i x at = elim (cases_eq i (length flight)) [
      | inl e ↦ inl (e, same_Some x p (sym at ∙ ap (slice_get (flight ++ p ∷ [])) e ∙ get_last flight p))
      | inr ne ↦
          let within : i < length (flight ++ p ∷ []) = slice_get_within (flight ++ p ∷ []) i x at in
          let lt : i < length flight = at_or_below (omega (arith, within, length-append flight (p ∷ []))) ne in
          inr (lt, sym (get_more flight p i lt) ∙ at)
    ]

    not_sent : (x : ℕ) → x ≡ p → Sent flight durable x → ⊥
    not_sent x e sent = apart.not_both p is (subst (λ y. Sent flight durable y) e sent)

    places : (i h x : ℕ) → slice_get (flight ++ p ∷ []) i ≡ Some x → slice_get (flight ++ p ∷ []) h ≡ Some x → i ≡ h
    places i h x a b = elim (sent_place i x a) [
      | inl (i_is, e) ↦ elim (sent_place h x b) [ inl (h_is, e') ↦ i_is ∙ sym h_is | inr (lt, at) ↦ absurd (not_sent x e (inl (h, at))) ]
      | inr (lt, at) ↦ elim (sent_place h x b) [ inl (h_is, e) ↦ absurd (not_sent x e (inl (i, at))) | inr (lt', at') ↦ apart.one_place i h x at at' ]
    ]

    not_there : (x : ℕ) → without p buffered x ≡ true → x ≡ p → ⊥
    not_there x b e = both_ways (x == p) (not-true (x == p) ((and_parts (not (x == p)) (buffered x) b).0)) (eq-eqb x p e)

    neither : (x : ℕ) → without p buffered x ≡ true → Sent (flight ++ p ∷ []) durable x → ⊥
    neither x b (inl (i, at)) = elim (sent_place i x at) [ inl (i_is, e) ↦ not_there x b e | inr (lt, old) ↦ apart.not_both x (without_old p buffered x b) (inl (i, old)) ]
    neither x b (inr d) = apart.not_both x (without_old p buffered x b) (inr d)

    undone : (x : ℕ) → InFlight (flight ++ p ∷ []) x → durable x ≡ true → ⊥
    undone x (i, at) d = elim (sent_place i x at) [ inl (i_is, e) ↦ not_sent x e (inr d) | inr (lt, old) ↦ apart.not_done x (i, old) d ]

    pub send_apart : AreApart (without p buffered) (flight ++ p ∷ []) durable
    send_apart = record { one_place = places; not_both = neither; not_done = undone }

  module _ (j p : ℕ) (at_j : slice_get flight j ≡ Some p) where
    -- the request written is gone from the list
    gone : (x : ℕ) → InFlight (remove flight j) x → x ≡ p → ⊥
    gone x (i, at) e = elim (left_place flight j i x at) [
      | inl (lt, is) ↦ let same : i ≡ j = apart.one_place i j x is (at_j ∙ ap Some (sym e)) in omega arith
      | inr (ge, is) ↦ let same : suc i ≡ j = apart.one_place (suc i) j x is (at_j ∙ ap Some (sym e)) in omega arith
    ]

    left_places : (i h x : ℕ) → slice_get (remove flight j) i ≡ Some x → slice_get (remove flight j) h ≡ Some x → i ≡ h
    left_places i h x a b = elim (left_place flight j i x a) [
      | inl (lt, is) ↦ elim (left_place flight j h x b) [
        | inl (lt', is') ↦ apart.one_place i h x is is'
        | inr (ge, is') ↦ let e : i ≡ suc h = apart.one_place i (suc h) x is is' in absurd (omega arith)
      ]
      | inr (ge, is) ↦ elim (left_place flight j h x b) [
        | inl (lt', is') ↦ let e : suc i ≡ h = apart.one_place (suc i) h x is is' in absurd (omega arith)
        | inr (ge', is') ↦ let e : suc i ≡ suc h = apart.one_place (suc i) (suc h) x is is' in omega arith
      ]
    ]

    not_both_left : (x : ℕ) → buffered x ≡ true → Sent (remove flight j) (with_ p durable) x → ⊥
    not_both_left x b (inl f) = apart.not_both x b (inl (was_in_flight flight j x f))
    not_both_left x b (inr d) = elim (with_cases p durable x d) [ inl e ↦ apart.not_both x b (inl (j, at_j ∙ ap Some (sym e))) | inr old ↦ apart.not_both x b (inr old) ]

    not_done_left : (x : ℕ) → InFlight (remove flight j) x → with_ p durable x ≡ true → ⊥
    not_done_left x f d = elim (with_cases p durable x d) [ inl e ↦ gone x f e | inr old ↦ apart.not_done x (was_in_flight flight j x f) old ]

    pub write_apart : AreApart buffered (remove flight j) (with_ p durable)
    write_apart = record { one_place = left_places; not_both = not_both_left; not_done = not_done_left }
