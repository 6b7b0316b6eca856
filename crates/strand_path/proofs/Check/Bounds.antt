-- Serves clauses chain and longest of check_path: a checked path's chain is one, and no chain is longer.
use Rattle.std.proofs.Common.{◌≡◌, ℕ, zero, suc, ◌+◌, ◌<◌, ◌≤◌, true, false, inl, inr, List, [], ◌∷◌, length, refl, sym, ap, ◌∙◌, arith, subst}
use Rattle.std.specs.Prelude.{slice_index, nat_lt, nat_le}
use Rattle.std.proofs.lemmas.Bool.{cases_eq, cases_Bool, ltb-true}
use Rattle.std.proofs.lemmas.Bool.Decides.{nat_tests}
use Rattle.std.proofs.lemmas.Option.{get_or_from_slice_get, slice_get_within}
use Rattle.strand_inputs.specs.declared.mode.Mode.{Mode}
use Rattle.strand_base.proofs.BelowBound.{list_get, at_or_below}
use Rattle.strand_events.specs.declared.event.Event.{Event}
use Rattle.strand_events.specs.Trace.{is_persist, is_access, event_is, persists_of, persist_number}
use Rattle.strand_events.proofs.PersistOrder.Epochs.{weaker, persist_access}
use Rattle.strand_order.specs.Graph.{is_edge, EdgePath, LeadsTo}
use Rattle.strand_order.proofs.Paths.Path.{path_before}
use Rattle.strand_order.proofs.Paths.Before.{before_path, then_edge}
use Rattle.strand_order.proofs.Edges.List.{list_has}
use Rattle.strand_path.specs.Chains.{IsChain, events_of}
use Rattle.strand_path.specs.Checked.{IsRoute, numbers_on, AreLevels, greatest_below}
use Rattle.strand_events.proofs.EventWithin.{event_within}

-- no level is above the greatest
pub greatest_most : (t : List Event) (levels : List ℕ) (n p : ℕ) → p < n → event_is is_persist t p ≡ true → slice_index levels p ≤ greatest_below t levels n
greatest_most t levels zero p lt is = absurd (omega arith)
greatest_most t levels (suc n) p lt is = elim (cases_eq p n) [
  | inl e ↦
      let here : event_is is_persist t n ≡ true = ap (event_is is_persist t) (sym e) ∙ is in
      rw here (omega (arith, ap (slice_index levels) e))
  | inr ne ↦
      let below = greatest_most t levels n p (at_or_below lt ne) is in
      elim (cases_Bool (event_is is_persist t n)) [ inl here ↦ rw here (omega (arith, below)) | inr none ↦ rw none below ]
]

module _ (mode : Mode) (t : List Event) where
  module _ (levels : List ℕ) (a : AreLevels mode t levels) where
    up_lt : (i j : ℕ) → is_edge mode t i j ≡ true → event_is is_persist t j ≡ true → slice_index levels i < slice_index levels j
    up_lt i j e is = let up : nat_lt (slice_index levels i) (slice_index levels j) ≡ true = rw is at (a.rise i j e) in ltb-true (slice_index levels i) (slice_index levels j) up

    pub up_le : (i j : ℕ) → is_edge mode t i j ≡ true → slice_index levels i ≤ slice_index levels j
    up_le i j e = elim (cases_Bool (event_is is_persist t j)) [
      | inl is ↦ omega (arith, up_lt i j e is)
      | inr none ↦ let up : nat_le (slice_index levels i) (slice_index levels j) ≡ true = rw none at (a.rise i j e) in grind (arith, nat_tests, up)
    ]

    pub path_lt : (p : ℕ) (xs : List ℕ) (q : ℕ) → EdgePath mode t p xs q → event_is is_persist t q ≡ true → slice_index levels p < slice_index levels q
    path_lt p [] q e is = up_lt p q e is
    path_lt p (x ∷ xs) q e is = omega (arith, up_le p x e.0, path_lt x xs q e.1 is)

    chain_bound : (p : ℕ) (ps : List ℕ) → IsChain mode t (p ∷ ps) → slice_index levels p + length ps ≤ greatest_below t levels (length t)
    chain_bound p [] c = omega (arith, greatest_most t levels (length t) p (event_within is_persist t p c) c)
    chain_bound p (q ∷ ps) c =
        let path = before_path mode t p q c.1 in
        let rest = chain_bound q ps c.2 in
        omega (arith, path_lt p path.0 q path.1 (chain_first q ps c.2), rest)
      where
        chain_first : (q : ℕ) (ps : List ℕ) → IsChain mode t (q ∷ ps) → event_is is_persist t q ≡ true
        chain_first q [] c = c
        chain_first q (r ∷ ps) c = c.0

    pub none_longer : (other : List ℕ) → IsChain mode t other → length other ≤ greatest_below t levels (length t)
    none_longer [] c = omega arith
    none_longer (p ∷ []) c = omega (arith, chain_bound p [] c, a.least p c)
    none_longer (p ∷ q ∷ ps) c = omega (arith, chain_bound p (q ∷ ps) c, a.least p c.0)

  -- a persist's number names it
  pub number_again : (x : ℕ) → event_is is_persist t x ≡ true → slice_index (persists_of t) (persist_number t x) ≡ x
  number_again x is =
      let at = list_has (length t) (event_is is_persist t) x (event_within is_persist t x is) is in
      let number : persist_number t x ≡ at.0 = (list_get (length t) (event_is is_persist t) at.0 x at.1).2 in
      ap (slice_index (persists_of t)) number ∙ get_or_from_slice_get (persists_of t) at.0 x 0 at.1

  pub number_within : (x : ℕ) → event_is is_persist t x ≡ true → persist_number t x < length (persists_of t)
  number_within x is =
      let at = list_has (length t) (event_is is_persist t) x (event_within is_persist t x is) is in
      let number : persist_number t x ≡ at.0 = (list_get (length t) (event_is is_persist t) at.0 x at.1).2 in
      omega (arith, number, slice_get_within (persists_of t) at.0 x at.1)

  on_persist : (x : ℕ) (xs : List ℕ) → event_is is_persist t x ≡ true → events_of t (numbers_on t (x ∷ xs)) ≡ x ∷ events_of t (numbers_on t xs)
  on_persist x xs is = rw is (ap (λ y. y ∷ events_of t (numbers_on t xs)) (number_again x is))

  on_other : (x : ℕ) (xs : List ℕ) → event_is is_persist t x ≡ false → events_of t (numbers_on t (x ∷ xs)) ≡ events_of t (numbers_on t xs)
  on_other x xs none = rw none refl

  rest_of : (x y : ℕ) (ys : List ℕ) → IsRoute mode t (x ∷ y ∷ ys) → IsRoute mode t (y ∷ ys)
  rest_of x y ys r = record { within = λ k lt. r.within (suc k) (omega (arith, lt)); joined = λ k lt. r.joined (suc k) (omega (arith, lt)) }

  first_edge : (x y : ℕ) (ys : List ℕ) → IsRoute mode t (x ∷ y ∷ ys) → is_edge mode t x y ≡ true
  first_edge x y ys r = r.joined 0 (omega arith)

  pub access : (p : ℕ) → event_is is_persist t p ≡ true → event_is is_access t p ≡ true
  access p is = weaker is_persist is_access persist_access t p is

  -- from a persist that a path leads from to the route's first event
  from_persist : (p x : ℕ) (xs : List ℕ) → event_is is_persist t p ≡ true → LeadsTo mode t p x → IsRoute mode t (x ∷ xs) → IsChain mode t (p ∷ events_of t (numbers_on t (x ∷ xs)))
  from_persist p x [] is path r = elim (cases_Bool (event_is is_persist t x)) [
    | inl here ↦ subst (λ zs. IsChain mode t (p ∷ zs)) (sym (on_persist x [] here)) (is, path_before mode t p x (access p is) (access x here) path, here)
    | inr none ↦ subst (λ zs. IsChain mode t (p ∷ zs)) (sym (on_other x [] none)) is
  ]
  from_persist p x (y ∷ ys) is path r = elim (cases_Bool (event_is is_persist t x)) [
    | inl here ↦ subst (λ zs. IsChain mode t (p ∷ zs)) (sym (on_persist x (y ∷ ys) here)) (is, path_before mode t p x (access p is) (access x here) path, from_persist x y ys here ([], first_edge x y ys r) (rest_of x y ys r))
    | inr none ↦ subst (λ zs. IsChain mode t (p ∷ zs)) (sym (on_other x (y ∷ ys) none)) (from_persist p y ys is (then_edge mode t p x y path (first_edge x y ys r)) (rest_of x y ys r))
  ]

  pub route_chain : (xs : List ℕ) → IsRoute mode t xs → IsChain mode t (events_of t (numbers_on t xs))
  route_chain [] r = tt
  route_chain (x ∷ []) r = elim (cases_Bool (event_is is_persist t x)) [
    | inl here ↦ subst (λ zs. IsChain mode t zs) (sym (on_persist x [] here)) here
    | inr none ↦ subst (λ zs. IsChain mode t zs) (sym (on_other x [] none)) tt
  ]
  route_chain (x ∷ y ∷ ys) r = elim (cases_Bool (event_is is_persist t x)) [
    | inl here ↦ subst (λ zs. IsChain mode t zs) (sym (on_persist x (y ∷ ys) here)) (from_persist x y ys here ([], first_edge x y ys r) (rest_of x y ys r))
    | inr none ↦ subst (λ zs. IsChain mode t zs) (sym (on_other x (y ∷ ys) none)) (route_chain (y ∷ ys) (rest_of x y ys r))
  ]
