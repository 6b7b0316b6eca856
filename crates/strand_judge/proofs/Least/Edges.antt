-- Serves judge, by ends_of and follow.
-- The edges to an event stand together in the list, and end where the last does.
use Rattle.std.proofs.Common.{◌≡◌, ℕ, zero, suc, ◌+◌, ◌<◌, ◌≤◌, Bool, true, false, ◌⊎◌, inl, inr, List, [], ◌∷◌, ◌++◌, length, Some, refl, sym, ap, ◌∙◌, arith, cond, subst}
use Rattle.std.specs.Prelude.{slice_get, slice_index, slice_index_or, slice_set}
use Rattle.std.proofs.lemmas.Bool.{cases_eq, cases_lt, eq-eqb, eqb-true, ne_eqb}
use Rattle.std.proofs.lemmas.List.{length-set, get_or-set_other, get_or-set_same}
use Rattle.std.proofs.lemmas.Option.{slice_get_within, slice_get-get_or}
use Rattle.strand_inputs.specs.declared.mode.Mode.{Mode}
use Rattle.strand_events.specs.declared.event.Event.{Event}
use Rattle.strand_events.specs.Order.{set_of}
use Rattle.strand_order.specs.declared.edge.Edge.{Edge}
use Rattle.strand_order.specs.Graph.{is_edge}
use Rattle.strand_order.specs.Edges.{edges_of, edge_from}
use Rattle.strand_order.specs.Lasts.{since_below}
use Rattle.strand_order.proofs.Edges.List.{listed_edge, edge_listed, listed_in_order, ends_within}
use Rattle.strand_order.proofs.Edges.Ends.{edge_within}
use Rattle.strand_judge.proofs.Least.Marks.{marked_is, newly_marked, listed_more, grows_both, grows_none}
use Rattle.strand_order.proofs.Edges.LastEvent.{since_above, since_passes, since_most}
use Rattle.strand_judge.specs.Worklist.{IsListed, Grows}
use Rattle.strand_judge.specs.Ends.{leads_in, leads_at, AreEnds, IsFollowed}

-- the edges to event j from place k on were followed
pub record FollowedFrom (mode : Mode) (t : List Event) (j end k : ℕ) (marks : List Bool) (list : List ℕ) (marks' : List Bool) (list' : List ℕ) : Type 0 where
  pub within : k ≤ end
  pub listed : IsListed (length t) marks' list'
  pub grows : Grows (length t) marks list marks' list'
  pub only : (i : ℕ) → set_of marks' i ≡ true → (set_of marks i ≡ true) ⊎ (is_edge mode t i j ≡ true)
  pub done : (m : ℕ) (e : Edge) → k ≤ m → slice_get (edges_of mode t) m ≡ Some e → e.after ≡ j → set_of marks' e.before ≡ true

module _ (mode : Mode) (t : List Event) where
  leads_from : (j m : ℕ) (e : Edge) → slice_get (edges_of mode t) m ≡ Some e → e.after ≡ j → leads_at mode t j m ≡ true
  leads_from j m e at to = ap (leads_in j) at ∙ eq-eqb e.after j to

  module _ (j end : ℕ) (is_end : end ≡ since_below (length (edges_of mode t)) (leads_at mode t j)) (marks : List Bool) (list : List ℕ) where
    pub follow_first : IsListed (length t) marks list → FollowedFrom mode t j end end marks list marks list
    follow_first l = record {
      within = omega arith;
      listed = l;
      grows = grows_none (length t) marks list;
      only = λ i h. inl h;
      done = λ m e le at to. absurd (omega (arith, le, is_end, since_above (length (edges_of mode t)) (leads_at mode t j) m (slice_get_within (edges_of mode t) m e at) (leads_from j m e at to)));
    }

    module _ (k : ℕ) (marks' : List Bool) (list' : List ℕ) (f : FollowedFrom mode t j end k marks list marks' list') where
      pub follow_step : (k' : ℕ) (e : Edge) (marks'' : List Bool) (list'' : List ℕ) → k ≡ suc k' → slice_get (edges_of mode t) k' ≡ Some e → e.after ≡ j
          → marks'' ≡ slice_set marks' e.before true → list'' ≡ cond (set_of marks' e.before) list' (list' ++ e.before ∷ [])
          → FollowedFrom mode t j end k' marks list marks'' list''
      follow_step k' e marks'' list'' is at to made put =
          let ends = ends_within mode t k' e at in
          let more = listed_more (length t) marks' list' e.before f.listed ends.0 marks'' list'' made put in
          let edge : is_edge mode t e.before j ≡ true = ap (is_edge mode t e.before) (sym to) ∙ (listed_edge mode t (length t) k' e at).0 in
          record {
            within = omega (arith, f.within, is);
            listed = more.0;
            grows = grows_both (length t) marks marks' marks'' list list' list'' f.grows more.1;
            only = λ i h. elim (marked_is marks' e.before i (ap (λ ms. set_of ms i) (sym made) ∙ h)) [
              | inl same ↦ inr (ap (λ x. is_edge mode t x j) same ∙ edge)
              | inr was ↦ f.only i was
            ];
            done = λ m g le at' to'. elim (cases_eq m k') [
              | inl same ↦
                  let one : g ≡ e = (let two : Some g ≡ Some e = sym at' ∙ ap (slice_get (edges_of mode t)) same ∙ at in cc) in
                  ap (λ ms. set_of ms g.before) made ∙ ap (λ (x : Edge). set_of (slice_set marks' e.before true) x.before) one ∙ newly_marked marks' e.before (omega (arith, ends.0, (f.listed).long))
              | inr ne ↦ let far : k ≤ m = grind (arith, le, ne, is) in (more.1).marks_grow g.before (f.done m g far at' to')
            ];
          }

      pub follow_end : (k ≡ 0) ⊎ ((k' : ℕ) × (e : Edge) × (k ≡ suc k') × (slice_get (edges_of mode t) k' ≡ Some e) × (e.after ≡ j → ⊥)) → IsFollowed mode t j marks list marks' list'
      follow_end stop = record {
        listed = f.listed;
        grows = f.grows;
        only = f.only;
        all = λ i edge.
            let found = edge_listed mode t (length t) i j (edge_within mode t i j edge) edge in
            elim (cases_lt found.0 k) [
              | inr le ↦ f.done found.0 (edge_from j i) le found.1 refl
              | inl lt ↦ absurd (past found.0 lt found.1 stop i)
            ];
      }
        where
          past : (m : ℕ) → m < k → {i : ℕ} → slice_get (edges_of mode t) m ≡ Some (edge_from j i) → (k ≡ 0) ⊎ ((k' : ℕ) × (e : Edge) × (k ≡ suc k') × (slice_get (edges_of mode t) k' ≡ Some e) × (e.after ≡ j → ⊥)) → ℕ → ⊥
          past m lt at (inl none) x = omega (arith, lt, none)
          past m lt {i} at (inr (k', e, is, at', other)) x = other (go (since_below (length (edges_of mode t)) (leads_at mode t j)) refl)
            where
              up : j ≤ e.after
              up = listed_in_order mode t (length t) m k' (edge_from j i) e (omega (arith, lt, is)) at at'

              go : (s : ℕ) → since_below (length (edges_of mode t)) (leads_at mode t j) ≡ s → e.after ≡ j
              go zero none = absurd (omega (arith, f.within, is, is_end, none))
              go (suc last) eq =
                  let on = since_passes (length (edges_of mode t)) (leads_at mode t j) last eq in
                  let lt' : last < length (edges_of mode t) = omega (arith, eq, since_most (length (edges_of mode t)) (leads_at mode t j)) in
                  let g : Edge = slice_index_or (edges_of mode t) last (record { before = 0; after = 0 }) in
                  let there : slice_get (edges_of mode t) last ≡ Some g = slice_get-get_or (edges_of mode t) last (record { before = 0; after = 0 }) lt' in
                  let to : g.after ≡ j = eqb-true g.after j (sym (ap (leads_in j) there) ∙ on) in
                  let down : e.after ≤ g.after = listed_in_order mode t (length t) k' last e g (omega (arith, f.within, is, is_end, eq)) at' there in
                  omega (arith, up, down, to)

  -- one edge more has an end
  pub ends_more : (n : ℕ) (e : Edge) (ends ends' : List ℕ) → slice_get (edges_of mode t) n ≡ Some e → ends' ≡ slice_set ends e.after (n + 1) → AreEnds mode t n ends → AreEnds mode t (n + 1) ends'
  ends_more n e ends ends' at made a = subst (AreEnds mode t (n + 1)) (sym made) (record {
    long = length-set ends e.after (n + 1) ∙ a.long;
    end = λ j lt. elim (cases_eq j e.after) [
      | inl same ↦
          let on : leads_at mode t j n ≡ true = leads_from j n e at (sym same) in
          let here : slice_index (slice_set ends e.after (n + 1)) e.after ≡ n + 1 = get_or-set_same ends e.after (n + 1) 0 (omega (arith, a.long, (ends_within mode t n e at).1)) in
          ap (slice_index (slice_set ends e.after (n + 1))) same ∙ here ∙ sym (one j ∙ ap (λ b. cond b (suc n) (since_below n (leads_at mode t j))) on ∙ suc_is n)
      | inr ne ↦
          let off : leads_at mode t j n ≡ false = ap (leads_in j) at ∙ ne_eqb e.after j (λ bad. ne (sym bad)) in
          get_or-set_other ends e.after j (n + 1) 0 ne ∙ a.end j lt ∙ sym (one j ∙ ap (λ b. cond b (suc n) (since_below n (leads_at mode t j))) off)
    ];
  })
    where
      suc_is : (n : ℕ) → suc n ≡ n + 1
      suc_is n = omega arith

      one : (j : ℕ) → since_below (n + 1) (leads_at mode t j) ≡ cond (leads_at mode t j n) (suc n) (since_below n (leads_at mode t j))
      one j = ap (λ x. since_below x (leads_at mode t j)) (sym (suc_is n))
