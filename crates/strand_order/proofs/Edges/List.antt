-- Serves edges_are_listed: what stands in the list of the edges, and in which order.
use Rattle.std.proofs.Common.{◌≡◌, ℕ, zero, suc, ◌+◌, ◌-◌, ◌<◌, ◌≤◌, inl, inr, true, ◌⊎◌, List, [], ◌∷◌, ◌++◌, length, Some, None, Option, refl, sym, ap, ◌∙◌, arith}
use Rattle.std.specs.Prelude.{slice_get, Bool}
use Rattle.std.specs.Option.{option_map}
use Rattle.std.proofs.lemmas.Bool.{cases_eq, cases_lt, cases_Bool}
use Rattle.std.proofs.lemmas.Option.{slice_get_within, slice_get-map, slice_get-get_or}
use Rattle.strand_inputs.specs.declared.mode.Mode.{Mode}
use Rattle.strand_base.specs.Counting.{count_below, list_below}
use Rattle.strand_base.proofs.BelowBound.{count_mono, list_get, get_last, get_more, at_or_below}
use Rattle.strand_events.specs.declared.event.Event.{Event}
use Rattle.strand_order.specs.declared.edge.Edge.{Edge}
use Rattle.std.proofs.Math.ListN.{get_or}
use Rattle.strand_order.proofs.Paths.Steps.{edge_less}
use Rattle.strand_order.specs.Graph.{is_edge}
use Rattle.strand_order.specs.Edges.{edge_from, edges_to, edges_below, edges_of, StandsBefore}

none_some : {X : Type 0} (x : X) → None ≡ Some x → ⊥
none_some x e = absurd cc

-- an element of two lists is one of the first or one of the second
get_front : {X : Type 0} (xs ys : List X) (i : ℕ) → i < length xs → slice_get (xs ++ ys) i ≡ slice_get xs i
get_front [] ys i lt = absurd (omega arith)
get_front (x ∷ xs) ys zero lt = refl
get_front (x ∷ xs) ys (suc i) lt = get_front xs ys i (omega arith)

get_back : {X : Type 0} (xs ys : List X) (i : ℕ) → slice_get (xs ++ ys) (length xs + i) ≡ slice_get ys i
get_back [] ys i = let e : 0 + i ≡ i = omega arith in ap (slice_get ys) e
get_back (x ∷ xs) ys i = let e : suc (length xs) + i ≡ suc (length xs + i) = omega arith in ap (slice_get (x ∷ (xs ++ ys))) e ∙ get_back xs ys i

-- the place of a number that passes
pub list_has : (n : ℕ) (f : ℕ → Bool) (i : ℕ) → i < n → f i ≡ true → (m : ℕ) × (slice_get (list_below n f) m ≡ Some i)
list_has zero f i lt h = absurd (omega arith)
list_has (suc n) f i lt h = elim (cases_eq i n) [
  | inl e ↦
      let yes_ : f n ≡ true = ap f (sym e) ∙ h in
      (length (list_below n f), rw yes_ (get_last (list_below n f) n ∙ ap Some (sym e)))
  | inr ne ↦
      let found = list_has n f i (at_or_below lt ne) h in
      elim (cases_Bool (f n)) [
        | inl yes_ ↦ (found.0, rw yes_ (get_more (list_below n f) n found.0 (slice_get_within (list_below n f) found.0 i found.1) ∙ found.1))
        | inr no_ ↦ (found.0, rw no_ found.1)
      ]
]

module _ (mode : Mode) (t : List Event) where
  -- an edge to event j, at place m of those
  record To (j m : ℕ) (e : Edge) : Type 0 where
    edge : is_edge mode t e.before e.after ≡ true
    to : e.after ≡ j
    place : count_below e.before (λ i. is_edge mode t i j) ≡ m

  listed_to : (j m : ℕ) (e : Edge) → slice_get (edges_to mode t j j) m ≡ Some e → To j m e
  listed_to j m e at = go (slice_get (list_below j (λ i. is_edge mode t i j)) m) refl (sym (slice_get-map (edge_from j) (list_below j (λ i. is_edge mode t i j)) m) ∙ at)
    where
      go : (o : Option ℕ) → slice_get (list_below j (λ i. is_edge mode t i j)) m ≡ o → option_map (edge_from j) o ≡ Some e → To j m e
      go None is h = absurd (none_some e h)
      go (Some i) is h =
          let same : edge_from j i ≡ e = cc in
          let found = list_get j (λ i. is_edge mode t i j) m i is in
          record {
            edge = ap (λ (x : Edge). is_edge mode t x.before x.after) (sym same) ∙ found.1;
            to = ap (λ (x : Edge). x.after) (sym same);
            place = ap (λ (x : Edge). count_below x.before (λ i. is_edge mode t i j)) (sym same) ∙ found.2;
          }

  -- where element m of the list up to event n stands: before the edges to event n, or among them
  split_at : (n m : ℕ) (e : Edge) → slice_get (edges_below mode t (suc n)) m ≡ Some e → ((m < length (edges_below mode t n)) × (slice_get (edges_below mode t n) m ≡ Some e)) ⊎ ((length (edges_below mode t n) ≤ m) × To n (m - length (edges_below mode t n)) e)
  unfolding edges_below
  split_at n m e at = elim (cases_lt m (length (edges_below mode t n))) [
    | inl lt ↦ inl (lt, sym (get_front (edges_below mode t n) (edges_to mode t n n) m lt) ∙ at)
    | inr le ↦
        let past : length (edges_below mode t n) + (m - length (edges_below mode t n)) ≡ m = omega arith in
        inr (le, listed_to n (m - length (edges_below mode t n)) e (sym (get_back (edges_below mode t n) (edges_to mode t n n) (m - length (edges_below mode t n))) ∙ ap (slice_get (edges_below mode t n ++ edges_to mode t n n)) past ∙ at))
  ]

  none_listed : (m : ℕ) (e : Edge) → slice_get (edges_below mode t 0) m ≡ Some e → ⊥
  unfolding edges_below
  none_listed zero e at = none_some e at
  none_listed (suc m) e at = none_some e at

  -- each element is an edge
  pub listed_edge : (n m : ℕ) (e : Edge) → slice_get (edges_below mode t n) m ≡ Some e → (is_edge mode t e.before e.after ≡ true) × (e.after < n)
  listed_edge zero m e at = absurd (none_listed m e at)
  listed_edge (suc n) m e at = elim (split_at n m e at) [
    | inl (lt, early) ↦ let rest = listed_edge n m e early in (rest.0, omega (arith, rest.1))
    | inr (le, here) ↦ (here.edge, omega (arith, here.to))
  ]

  -- each edge is an element
  pub edge_listed : (n i j : ℕ) → j < n → is_edge mode t i j ≡ true → (m : ℕ) × (slice_get (edges_below mode t n) m ≡ Some (edge_from j i))
  unfolding edges_below
  edge_listed zero i j lt h = absurd (omega arith)
  edge_listed (suc n) i j lt h = elim (cases_eq j n) [
    | inl e ↦
        let before : i < n = omega (arith, e, edge_less mode t i j h) in
        let found = list_has n (λ i. is_edge mode t i n) i before (ap (is_edge mode t i) (sym e) ∙ h) in (
          length (edges_below mode t n) + found.0,
          get_back (edges_below mode t n) (edges_to mode t n n) found.0 ∙ slice_get-map (edge_from n) (list_below n (λ i. is_edge mode t i n)) found.0 ∙ ap (option_map (edge_from n)) found.1 ∙ ap (λ k. Some (edge_from k i)) (sym e),
        )
    | inr ne ↦
        let found = edge_listed n i j (at_or_below lt ne) h in
        (found.0, get_front (edges_below mode t n) (edges_to mode t n n) found.0 (slice_get_within (edges_below mode t n) found.0 (edge_from j i) found.1) ∙ found.1)
  ]

  -- a later element is another one: it leads to a later event, or to the same from a later one
  pub listed_rising : (n m k : ℕ) (e f : Edge) → m < k → slice_get (edges_below mode t n) m ≡ Some e → slice_get (edges_below mode t n) k ≡ Some f → StandsBefore e f
  listed_rising zero m k e f less at at' = absurd (none_listed m e at)
  listed_rising (suc n) m k e f less at at' = elim (split_at n k f at') [
    | inl (lt', early') ↦ elim (split_at n m e at) [
      | inl (lt, early) ↦ listed_rising n m k e f less early early'
      | inr (far, here) ↦ absurd (omega arith)
    ]
    | inr (far', here') ↦ elim (split_at n m e at) [
      | inl (lt, early) ↦ inl (omega (arith, (listed_edge n m e early).1, here'.to))
      | inr (far, here) ↦ inr (
        here.to ∙ sym here'.to,
        elim (cases_lt e.before f.before) [
          | inl lt ↦ lt
          | inr le ↦ absurd (omega (arith, here.place, here'.place, count_mono f.before e.before (λ i. is_edge mode t i n) le))
        ],
      )
    ]
  ]

  -- so it leads to no earlier event
  pub listed_in_order : (n m k : ℕ) (e f : Edge) → m ≤ k → slice_get (edges_below mode t n) m ≡ Some e → slice_get (edges_below mode t n) k ≡ Some f → e.after ≤ f.after
  listed_in_order n m k e f le at at' = elim (cases_eq m k) [
    | inl same ↦ let one : e ≡ f = cc in omega (arith, ap (λ (x : Edge). x.after) one)
    | inr ne ↦ elim (listed_rising n m k e f (grind (arith, le, ne)) at at') [ inl later ↦ omega (arith, later) | inr (even, rising) ↦ omega (arith, even) ]
  ]

  -- the edge at a place of the list, and its ends
  pub edge_at : (es : List Edge) → es ≡ edges_of mode t → (k : ℕ) (d : Edge) → k < length es → slice_get (edges_of mode t) k ≡ Some (get_or es k d)
  edge_at es same k d lt = sym (ap (λ xs. slice_get xs k) same) ∙ slice_get-get_or es k d lt

  pub ends_within : (k : ℕ) (e : Edge) → slice_get (edges_of mode t) k ≡ Some e → (e.before < length t) × (e.after < length t)
  ends_within k e at =
      let edge = listed_edge (length t) k e at in
      (omega (arith, edge.1, edge_less mode t e.before e.after edge.0), edge.1)
