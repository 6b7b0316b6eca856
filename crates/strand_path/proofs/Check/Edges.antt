-- Serves clauses yes and no of check_path, by are_levels and is_route, and longest, by traces_of.
-- What holds of the edges of the list holds of all edges.
use Rattle.std.proofs.Common.{◌≡◌, ℕ, ◌+◌, ◌<◌, ◌≤◌, Bool, true, inl, inr, List, length, Some, sym, ap, ◌∙◌, arith, subst}
use Rattle.std.specs.Prelude.{slice_get, slice_index_or, ◌==◌}
use Rattle.std.proofs.lemmas.Bool.{cases_eq, and_parts, eqb-true}
use Rattle.std.proofs.lemmas.Option.{slice_get_within}
use Rattle.strand_inputs.specs.declared.mode.Mode.{Mode}
use Rattle.strand_events.specs.declared.event.Event.{Event}
use Rattle.strand_order.specs.declared.edge.Edge.{Edge}
use Rattle.strand_order.specs.Graph.{is_edge}
use Rattle.strand_order.specs.Edges.{edges_of, edge_from}
use Rattle.strand_order.proofs.Edges.List.{listed_edge, edge_listed, edge_at, ends_within}
use Rattle.strand_path.specs.Checked.{is_from_to, goes_up}
use Rattle.strand_order.proofs.Edges.Ends.{edge_within}

module _ (mode : Mode) (t : List Event) where
  -- the ends of the edge at a place of the list
  pub ends_at : (es : List Edge) → es ≡ edges_of mode t → (k : ℕ) → k < length es
      → ((slice_index_or es k (record { before = 0; after = 0 })).before < length t) × ((slice_index_or es k (record { before = 0; after = 0 })).after < length t)
  ends_at es is k lt = ends_within mode t k _ (edge_at mode t es is k (record { before = 0; after = 0 }) lt)

  -- what holds of the first edges and of the next one
  pub one_more : (test : Edge → Bool) (b : Bool) (n : ℕ) (e : Edge) → slice_get (edges_of mode t) n ≡ Some e → test e ≡ b → ((m : ℕ) (f : Edge) → m < n → slice_get (edges_of mode t) m ≡ Some f → test f ≡ b) → (m : ℕ) (f : Edge) → m < n + 1 → slice_get (edges_of mode t) m ≡ Some f → test f ≡ b
  one_more test b n e at here before m f lt at' = elim (cases_eq m n) [
    | inl same ↦
        let one : f ≡ e = (let two : Some f ≡ Some e = sym at' ∙ ap (slice_get (edges_of mode t)) same ∙ at in cc) in
        ap test one ∙ here
    | inr ne ↦ let below : m < n = grind (arith, lt, ne) in before m f below at'
  ]

  pub found : (m i j : ℕ) (e : Edge) → slice_get (edges_of mode t) m ≡ Some e → is_from_to e i j ≡ true → is_edge mode t i j ≡ true
  found m i j e at h =
      let parts = and_parts (e.before == i) (e.after == j) h in
      let from = eqb-true e.before i parts.0 in
      let to = eqb-true e.after j parts.1 in
      subst (λ x. is_edge mode t x j ≡ true) from (subst (λ x. is_edge mode t e.before x ≡ true) to (listed_edge mode t (length t) m e at).0)

  -- levels rise along every edge where they do along those of the list
  pub all_rise : (n : ℕ) (levels : List ℕ) → length (edges_of mode t) ≤ n → ((m : ℕ) (e : Edge) → m < n → slice_get (edges_of mode t) m ≡ Some e → goes_up t levels e.before e.after ≡ true) → (i j : ℕ) → is_edge mode t i j ≡ true → goes_up t levels i j ≡ true
  all_rise n levels all up i j h =
      let at = edge_listed mode t (length t) i j (edge_within mode t i j h) h in
      up at.0 (edge_from j i) (omega (arith, all, slice_get_within (edges_of mode t) at.0 (edge_from j i) at.1)) at.1
