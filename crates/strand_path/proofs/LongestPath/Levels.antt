-- Serves longest, by traces_of: one pass over the edges gives levels that are attained.
use Rattle.std.proofs.Common.{◌≡◌, ℕ, suc, ◌+◌, ◌<◌, ◌≤◌, true, ◌⊎◌, inl, inr, List, [], length, Some, refl, sym, ◌∙◌, arith, subst}
use Rattle.std.specs.Prelude.{slice_get, slice_index, nat_lt, nat_le, max}
use Rattle.std.proofs.lemmas.Bool.{cases_eq, cases_lt, cases_Bool}
use Rattle.std.proofs.lemmas.Bool.Decides.{nat_tests}
use Rattle.std.proofs.lemmas.List.{get_or-set_other, get_or-set_same, length-set, get_or_past}
use Rattle.strand_inputs.specs.declared.mode.Mode.{Mode}
use Rattle.strand_events.specs.declared.event.Event.{Event}
use Rattle.strand_events.specs.Trace.{is_persist, event_is}
use Rattle.strand_order.specs.declared.edge.Edge.{Edge}
use Rattle.strand_order.specs.Graph.{is_edge, LeadsTo}
use Rattle.strand_order.specs.Edges.{edges_of}
use Rattle.strand_order.proofs.Edges.List.{listed_edge, listed_in_order, ends_within}
use Rattle.strand_order.proofs.Paths.Path.{path_less}
use Rattle.strand_order.proofs.Paths.Steps.{edge_less}
use Rattle.strand_order.proofs.Paths.Before.{then_edge}
use Rattle.strand_path.specs.Checked.{goes_up, AreLevels}
use Rattle.strand_path.specs.Building.{own_level, AreOwn, raised, AreSupported}
use Rattle.strand_events.proofs.EventWithin.{event_within}
use Rattle.strand_path.proofs.Check.Edges.{one_more, all_rise}

-- the level of event k came from a persist that leads to it, along an edge that was followed
pub record Carried (mode : Mode) (t : List Event) (n : ℕ) (levels : List ℕ) (k : ℕ) : Type 0 where
  pub from : ℕ
  pub persist : event_is is_persist t from ≡ true
  pub level : slice_index levels from + own_level t k ≡ slice_index levels k
  pub path : LeadsTo mode t from k
  pub place : ℕ
  pub edge : Edge
  pub before : place < n
  pub at : slice_get (edges_of mode t) place ≡ Some edge
  pub to : edge.after ≡ k

-- the first n edges were followed
pub record IsRaised (mode : Mode) (t : List Event) (n : ℕ) (levels : List ℕ) : Type 0 where
  pub long : length levels ≡ length t
  pub small : (k : ℕ) → slice_index levels k ≤ suc k
  pub least : (p : ℕ) → event_is is_persist t p ≡ true → 1 ≤ slice_index levels p
  pub up : (m : ℕ) (e : Edge) → m < n → slice_get (edges_of mode t) m ≡ Some e → goes_up t levels e.before e.after ≡ true
  pub carried : (k : ℕ) → k < length t → (slice_index levels k ≡ own_level t k) ⊎ Carried mode t n levels k

own_most : (t : List Event) (k : ℕ) → own_level t k ≤ 1
own_most t k = elim (cases_Bool (event_is is_persist t k)) [ inl is ↦ rw is (omega arith) | inr none ↦ rw none (omega arith) ]

-- an edge that goes up still does where its later event was raised
still_up : (t : List Event) (levels new : List ℕ) (i j : ℕ) → goes_up t levels i j ≡ true → slice_index new i ≡ slice_index levels i → slice_index levels j ≤ slice_index new j → goes_up t new i j ≡ true
still_up t levels new i j up same more = elim (cases_Bool (event_is is_persist t j)) [
  | inl is ↦
      let was : nat_lt (slice_index levels i) (slice_index levels j) ≡ true = rw is at up in
      let now : nat_lt (slice_index new i) (slice_index new j) ≡ true = grind (arith, nat_tests) in
      rw is now
  | inr none ↦
      let was : nat_le (slice_index levels i) (slice_index levels j) ≡ true = rw none at up in
      let now : nat_le (slice_index new i) (slice_index new j) ≡ true = grind (arith, nat_tests) in
      rw none now
]

-- an edge goes up where the later level is the earlier one and the event's own
goes_up_from : (t : List Event) (levels : List ℕ) (i j : ℕ) → slice_index levels i + own_level t j ≤ slice_index levels j → goes_up t levels i j ≡ true
goes_up_from t levels i j le = elim (cases_Bool (event_is is_persist t j)) [
  | inl is ↦
      let more : slice_index levels i + 1 ≤ slice_index levels j = rw is at le in
      let now : nat_lt (slice_index levels i) (slice_index levels j) ≡ true = grind (arith, nat_tests) in
      rw is now
  | inr none ↦
      let more : slice_index levels i + 0 ≤ slice_index levels j = rw none at le in
      let now : nat_le (slice_index levels i) (slice_index levels j) ≡ true = grind (arith, nat_tests) in
      rw none now
]

module _ (mode : Mode) (t : List Event) where
  pub raised_first : (levels : List ℕ) → AreOwn t (length t) levels → IsRaised mode t 0 levels
  raised_first levels o = record {
    long = o.long;
    small = λ k. elim (cases_lt k (length t)) [
      | inl lt ↦ omega (arith, o.own k lt, own_most t k)
      | inr past ↦ rw (get_or_past levels k 0 (omega (arith, o.long))) (omega arith)
    ];
    least = λ p is. let own : own_level t p ≡ 1 = rw is refl in omega (arith, o.own p (event_within is_persist t p is), own);
    up = λ m e lt at. absurd (omega arith);
    carried = λ k lt. inl (o.own k lt);
  }

  module _ (n : ℕ) (e : Edge) (levels : List ℕ) (at : slice_get (edges_of mode t) n ≡ Some e) (r : IsRaised mode t n levels) where
    is : is_edge mode t e.before e.after ≡ true
    is = (listed_edge mode t (length t) n e at).0

    forward : e.before < e.after
    forward = edge_less mode t e.before e.after is

    at_other : (k : ℕ) → (k ≡ e.after → ⊥) → slice_index (raised t e levels) k ≡ slice_index levels k
    at_other k ne = get_or-set_other levels e.after k (max (slice_index levels e.after) (slice_index levels e.before + own_level t e.after)) 0 ne

    at_after : slice_index (raised t e levels) e.after ≡ max (slice_index levels e.after) (slice_index levels e.before + own_level t e.after)
    at_after = get_or-set_same levels e.after (max (slice_index levels e.after) (slice_index levels e.before + own_level t e.after)) 0 (omega (arith, (ends_within mode t n e at).1, r.long))

    at_before : slice_index (raised t e levels) e.before ≡ slice_index levels e.before
    at_before = at_other e.before (λ same. omega (arith, same, forward))

    rises : (k : ℕ) → slice_index levels k ≤ slice_index (raised t e levels) k
    rises k = elim (cases_eq k e.after) [
      | inl same ↦ subst (λ x. slice_index levels x ≤ slice_index (raised t e levels) x) (sym same) (omega (arith, at_after))
      | inr ne ↦ omega (arith, at_other k ne)
    ]

    -- what was carried to an event keeps its source
    kept : (k : ℕ) → slice_index (raised t e levels) k ≡ slice_index levels k → Carried mode t n levels k → Carried mode t (n + 1) (raised t e levels) k
    kept k same c =
        let source : c.from < k = path_less mode t c.path.0 c.from k c.path.1 in
        let near : c.edge.after ≤ e.after = listed_in_order mode t (length t) c.place n c.edge e (omega (arith, c.before)) c.at at in
        let other : slice_index (raised t e levels) c.from ≡ slice_index levels c.from = at_other c.from (λ bad. omega (arith, bad, source, near, c.to)) in
        record {
          from = c.from;
          persist = c.persist;
          level = omega (arith, other, same, c.level);
          path = c.path;
          place = c.place;
          edge = c.edge;
          before = omega (arith, c.before);
          at = c.at;
          to = c.to;
        }

    -- the event that was raised has its level from the edge's earlier event
    brought : (from : ℕ) → event_is is_persist t from ≡ true → slice_index (raised t e levels) from ≡ slice_index levels from → slice_index levels from ≡ slice_index levels e.before → LeadsTo mode t from e.after → slice_index (raised t e levels) e.after ≡ slice_index levels e.before + own_level t e.after → Carried mode t (n + 1) (raised t e levels) e.after
    brought from persist same source path made = record {
      from = from;
      persist = persist;
      level = omega (arith, same, source, made);
      path = path;
      place = n;
      edge = e;
      before = omega arith;
      at = at;
      to = refl;
    }

    carried_after : (slice_index (raised t e levels) e.after ≡ own_level t e.after) ⊎ Carried mode t (n + 1) (raised t e levels) e.after
    carried_after = elim (cases_lt (slice_index levels e.after) (slice_index levels e.before + own_level t e.after)) [
      | inr enough ↦
          let same : slice_index (raised t e levels) e.after ≡ slice_index levels e.after = omega (arith, at_after, enough) in
          elim (r.carried e.after (ends_within mode t n e at).1) [
            | inl own ↦ inl (same ∙ own)
            | inr c ↦ inr (kept e.after same c)
          ]
      | inl more ↦
          let made : slice_index (raised t e levels) e.after ≡ slice_index levels e.before + own_level t e.after = omega (arith, at_after, more) in
          elim (cases_Bool (event_is is_persist t e.before)) [
            | inl persist ↦ inr (brought e.before persist at_before refl ([], is) made)
            | inr none ↦
                let nothing : own_level t e.before ≡ 0 = rw none refl in
                elim (r.carried e.before (ends_within mode t n e at).0) [
                  | inl own ↦ inl (omega (arith, made, own, nothing))
                  | inr c ↦
                      let source : c.from < e.before = path_less mode t c.path.0 c.from e.before c.path.1 in
                      let other : slice_index (raised t e levels) c.from ≡ slice_index levels c.from = at_other c.from (λ bad. omega (arith, bad, source, forward)) in
                      inr (brought c.from c.persist other (omega (arith, c.level, nothing)) (then_edge mode t c.from e.before e.after c.path is) made)
                ]
          ]
    ]

    pub raised_more : IsRaised mode t (n + 1) (raised t e levels)
    raised_more = record {
      long = length-set levels e.after (max (slice_index levels e.after) (slice_index levels e.before + own_level t e.after)) ∙ r.long;
      small = λ k. elim (cases_eq k e.after) [
        | inl same ↦ subst (λ x. slice_index (raised t e levels) x ≤ suc x) (sym same) (omega (arith, at_after, r.small e.after, r.small e.before, own_most t e.after, forward))
        | inr ne ↦ omega (arith, at_other k ne, r.small k)
      ];
      least = λ p persist. omega (arith, r.least p persist, rises p);
      up = one_more mode t (λ (f : Edge). goes_up t (raised t e levels) f.before f.after) true n e at
          (goes_up_from t (raised t e levels) e.before e.after (omega (arith, at_before, at_after)))
          (λ m f lt at'.
          let order : f.after ≤ e.after = listed_in_order mode t (length t) m n f e (omega arith) at' at in
          let less : f.before < f.after = edge_less mode t f.before f.after (listed_edge mode t (length t) m f at').0 in
          still_up t levels (raised t e levels) f.before f.after (r.up m f lt at') (at_other f.before (λ bad. omega (arith, bad, less, order))) (rises f.after));
      carried = λ k lt. elim (cases_eq k e.after) [
        | inl same ↦ subst (λ x. (slice_index (raised t e levels) x ≡ own_level t x) ⊎ Carried mode t (n + 1) (raised t e levels) x) (sym same) carried_after
        | inr ne ↦ elim (r.carried k lt) [
          | inl own ↦ inl (at_other k ne ∙ own)
          | inr c ↦ inr (kept k (at_other k ne) c)
        ]
      ];
    }

  -- all edges were followed
  pub raised_levels : (n : ℕ) (levels : List ℕ) → length (edges_of mode t) ≤ n → IsRaised mode t n levels → AreLevels mode t levels
  raised_levels n levels all r = record { long = r.long; least = r.least; rise = all_rise mode t n levels all r.up }

  pub raised_supported : (n : ℕ) (levels : List ℕ) → IsRaised mode t n levels → AreSupported mode t levels
  raised_supported n levels r j is two =
      let own : own_level t j ≡ 1 = rw is refl in
      elim (r.carried j (event_within is_persist t j is)) [
        | inl low ↦ absurd (omega (arith, low, own, two))
        | inr c ↦ record { from = c.from; persist = c.persist; level = omega (arith, c.level, own); path = c.path }
      ]
