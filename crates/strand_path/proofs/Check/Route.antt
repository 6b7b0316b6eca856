-- Serves clauses yes and no of check_path, by is_route.
-- An edge that is sought from a place on is found where there is one.
use Rattle.std.proofs.Common.{◌≡◌, ℕ, suc, ◌+◌, ◌-◌, ◌<◌, ◌≤◌, true, inl, inr, List, length, Some, None, Option, refl, ap, ◌∙◌, arith}
use Rattle.std.specs.Prelude.{slice_get, slice_index, slice_index_or, ◌&&◌, ◌==◌, nat_lt}
use Rattle.std.proofs.lemmas.Bool.{cases_eq, cases_lt, and_parts, and_from, or_cases, or_left, or_right, eqb-true, eq-eqb, ltb-true, lt-ltb, both_ways, false≢true}
use Rattle.std.proofs.lemmas.Option.{slice_get_within, slice_get-get_or}
use Rattle.strand_inputs.specs.declared.mode.Mode.{Mode}
use Rattle.strand_events.specs.declared.event.Event.{Event}
use Rattle.strand_order.specs.declared.edge.Edge.{Edge}
use Rattle.strand_order.specs.Graph.{is_edge}
use Rattle.strand_order.specs.Edges.{edges_of, edge_from, StandsBefore}
use Rattle.strand_order.proofs.Paths.Steps.{edge_less}
use Rattle.strand_order.proofs.Edges.Ends.{edge_within}
use Rattle.strand_order.proofs.Edges.List.{edge_listed, listed_rising}
use Rattle.strand_path.specs.Seeking.{stands_before, joins, IsSought}
use Rattle.strand_path.proofs.Check.Edges.{found}

before_cases : (e : Edge) (i j : ℕ) → stands_before e i j ≡ true → StandsBefore e (edge_from j i)
before_cases e i j h = elim (or_cases (nat_lt e.after j) ((e.after == j) && nat_lt e.before i) h) [
  | inl lt ↦ inl (ltb-true e.after j lt)
  | inr same ↦ let parts = and_parts (e.after == j) (nat_lt e.before i) same in inr (eqb-true e.after j parts.0, ltb-true e.before i parts.1)
]

before_from : (e : Edge) (i j : ℕ) → StandsBefore e (edge_from j i) → stands_before e i j ≡ true
before_from e i j (inl lt) = or_left (nat_lt e.after j) ((e.after == j) && nat_lt e.before i) (lt-ltb e.after j lt)
before_from e i j (inr (same, lt)) = or_right (nat_lt e.after j) ((e.after == j) && nat_lt e.before i) (and_from (e.after == j) (nat_lt e.before i) (eq-eqb e.after j same) (lt-ltb e.before i lt))

-- the route is joined up to event k, and the edges below a place lead to no later event
pub record IsJoinedTo (mode : Mode) (t : List Event) (route : List ℕ) (k place : ℕ) : Type 0 where
  pub joined : (n : ℕ) → suc n < k → is_edge mode t (slice_index route n) (slice_index route (suc n)) ≡ true
  pub within : place ≤ length (edges_of mode t)
  pub passed : (m : ℕ) (e : Edge) → m < place → slice_get (edges_of mode t) m ≡ Some e → e.after ≤ slice_index route (k - 1)

module _ (mode : Mode) (t : List Event) where
  pub joined_first : (route : List ℕ) → IsJoinedTo mode t route 1 0
  joined_first route = record {
    joined = λ n lt. absurd (omega (arith, lt));
    within = omega arith;
    passed = λ m e lt at. absurd (omega (arith, lt));
  }

  pub joins_found : (place i j : ℕ) → joins i j (slice_get (edges_of mode t) place) ≡ true → is_edge mode t i j ≡ true
  joins_found place i j h = go (slice_get (edges_of mode t) place) refl h
    where
      go : (o : Option Edge) → slice_get (edges_of mode t) place ≡ o → joins i j o ≡ true → is_edge mode t i j ≡ true
      go None at h = absurd (false≢true h)
      go (Some e) at h = found mode t place i j e at h

  module _ (route : List ℕ) (k from place : ℕ) (a : IsJoinedTo mode t route k from) where
    -- an edge from the event before, if there is one, is the edge at the place
    pub joins_all : (i j : ℕ) → slice_index route (k - 1) ≡ i → IsSought (edges_of mode t) i j from place → is_edge mode t i j ≡ true → joins i j (slice_get (edges_of mode t) place) ≡ true
    joins_all i j same s h =
        let listed = edge_listed mode t (length t) i j (edge_within mode t i j h) h in
        let m = listed.0 in
        let lt : i < j = edge_less mode t i j h in
        let low : from ≤ m = elim (cases_lt m from) [
          | inr le ↦ le
          | inl less ↦ absurd (omega (arith, lt, same, a.passed m (edge_from j i) less listed.1))
        ] in
        let past : place ≤ m = elim (cases_lt m place) [
          | inr le ↦ le
          | inl less ↦ absurd (elim (before_cases (edge_from j i) i j (s.before m (edge_from j i) low less listed.1)) [ inl bad ↦ omega (arith, bad) | inr (same, bad) ↦ omega (arith, bad) ])
        ] in
        elim (cases_eq place m) [
          | inl here ↦ ap (λ n. joins i j (slice_get (edges_of mode t) n)) here ∙ ap (joins i j) listed.1 ∙ and_from (i == i) (j == j) (eq-eqb i i refl) (eq-eqb j j refl)
          | inr ne ↦ absurd (earlier (grind (arith, past, ne)))
        ]
      where
        earlier : place < (edge_listed mode t (length t) i j (edge_within mode t i j h) h).0 → ⊥
        earlier less =
            let listed = edge_listed mode t (length t) i j (edge_within mode t i j h) h in
            let none : Edge = record { before = 0; after = 0 } in
            let e = slice_index_or (edges_of mode t) place none in
            let at = slice_get-get_or (edges_of mode t) place none (omega (arith, less, slice_get_within (edges_of mode t) listed.0 (edge_from j i) listed.1)) in
            both_ways (stands_before e i j) (s.here e at) (before_from e i j (listed_rising mode t (length t) place listed.0 e (edge_from j i) less at listed.1))

    pub joined_more : (i j : ℕ) → slice_index route (k - 1) ≡ i → slice_index route k ≡ j → 1 ≤ k → IsSought (edges_of mode t) i j from place → is_edge mode t i j ≡ true → IsJoinedTo mode t route (k + 1) place
    joined_more i j was now one s h =
        let lt : i < j = edge_less mode t i j h in
        let last : slice_index route (k + 1 - 1) ≡ j = ap (slice_index route) (omega arith) ∙ now in
        record {
          joined = λ n less. elim (cases_eq (suc n) k) [
            | inl e ↦
                let before : n ≡ k - 1 = omega (arith, e) in
                ap (λ x. is_edge mode t (slice_index route n) (slice_index route x)) e ∙ ap (λ x. is_edge mode t (slice_index route x) (slice_index route k)) before ∙ ap (λ x. is_edge mode t x (slice_index route k)) was ∙ ap (is_edge mode t i) now ∙ h
            | inr ne ↦ let below : suc n < k = grind (arith, less, ne) in a.joined n below
          ];
          within = s.within;
          passed = λ m e less at. elim (cases_lt m from) [
            | inl early ↦ omega (arith, last, lt, was, a.passed m e early at)
            | inr late ↦ elim (before_cases e i j (s.before m e late less at)) [ inl below ↦ omega (arith, last, below) | inr (same, low) ↦ omega (arith, last, same) ]
          ];
        }
