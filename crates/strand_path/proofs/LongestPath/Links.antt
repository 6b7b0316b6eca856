-- Serves longest, by traces_of.
-- The same pass gives the first persists of the levels below, and the links to them.
use Rattle.std.proofs.Common.{◌≡◌, ℕ, zero, suc, ◌+◌, ◌<◌, ◌≤◌, true, false, ◌&&◌, ◌||◌, ◌⊎◌, inl, inr, List, [], ◌∷◌, length, Some, refl, sym, ap, ◌∙◌, arith, cond, subst}
use Rattle.std.specs.Prelude.{slice_get, slice_index, slice_set, nat_lt, nat_le, max, ◌==◌}
use Rattle.std.proofs.lemmas.Bool.{cases_eq, cases_lt, cases_Bool, both_ways, and_parts, and_from, or_cases, or_left, or_right, eq-eqb, eqb-true, ltb-true, lt-ltb}
use Rattle.std.proofs.lemmas.Bool.Decides.{nat_tests}
use Rattle.std.proofs.lemmas.List.{get_or-set_other, get_or-set_same, length-set, get_or_past}
use Rattle.strand_inputs.specs.declared.mode.Mode.{Mode}
use Rattle.strand_events.specs.declared.event.Event.{Event}
use Rattle.strand_events.specs.Trace.{is_persist, event_is}
use Rattle.strand_order.specs.declared.edge.Edge.{Edge}
use Rattle.strand_order.specs.Graph.{is_edge, EdgePath, LeadsTo}
use Rattle.strand_order.specs.Edges.{edges_of, edge_from}
use Rattle.strand_order.proofs.Edges.List.{listed_edge, edge_listed, listed_in_order, ends_within}
use Rattle.strand_order.proofs.Paths.Steps.{edge_less}
use Rattle.strand_order.proofs.Paths.Before.{then_edge}
use Rattle.strand_order.proofs.Edges.Ends.{edge_within}
use Rattle.std.proofs.lemmas.Option.{slice_get_within}
use Rattle.strand_path.specs.Checked.{AreLevels, goes_up}
use Rattle.strand_path.specs.Building.{own_level, raised}
use Rattle.strand_path.proofs.LongestPath.Levels.{IsRaised, raised_more, raised_levels}
use Rattle.strand_path.proofs.Check.Bounds.{up_le, path_lt}
use Rattle.strand_path.specs.Tracing.{top, is_better, firsts_after, vias_after, IsVia, AreVias, AreFirsts}

-- the first n edges were followed
pub record AreTraced (mode : Mode) (t : List Event) (n : ℕ) (levels firsts vias : List ℕ) : Type 0 where
  pub raised_so : IsRaised mode t n levels
  pub long_firsts : length firsts ≡ length t
  pub long_vias : length vias ≡ length t
  pub via : (j i : ℕ) → slice_index vias j ≡ suc i → IsVia mode t levels firsts j i × ((m : ℕ) × (m < n) × (slice_get (edges_of mode t) m ≡ Some (edge_from j i)))
  pub onward : (j : ℕ) → own_level t j < slice_index levels j → 1 ≤ slice_index vias j
  pub least : (m : ℕ) (e : Edge) → m < n → slice_get (edges_of mode t) m ≡ Some e → 1 ≤ slice_index levels e.before → slice_index levels e.before + own_level t e.after ≡ slice_index levels e.after → slice_index firsts e.after ≤ top t firsts e.before

own_most : (t : List Event) (levels : List ℕ) → ((p : ℕ) → event_is is_persist t p ≡ true → 1 ≤ slice_index levels p) → (k : ℕ) → own_level t k ≤ slice_index levels k
own_most t levels least k = elim (cases_Bool (event_is is_persist t k)) [ inl is ↦ rw is (least k is) | inr none ↦ rw none (omega arith) ]

up_sum : (t : List Event) (levels : List ℕ) (i j : ℕ) → goes_up t levels i j ≡ true → slice_index levels i + own_level t j ≤ slice_index levels j
up_sum t levels i j up = elim (cases_Bool (event_is is_persist t j)) [
  | inl is ↦
      let was : nat_lt (slice_index levels i) (slice_index levels j) ≡ true = rw is at up in
      rw is (omega (arith, ltb-true (slice_index levels i) (slice_index levels j) was))
  | inr none ↦
      let was : nat_le (slice_index levels i) (slice_index levels j) ≡ true = rw none at up in
      let le : slice_index levels i ≤ slice_index levels j = grind (arith, nat_tests, was) in
      rw none (omega (arith, le))
]

top_same : (t : List Event) (firsts firsts' : List ℕ) (i : ℕ) → slice_index firsts' i ≡ slice_index firsts i → top t firsts' i ≡ top t firsts i
top_same t firsts firsts' i e = elim (cases_Bool (event_is is_persist t i)) [ inl is ↦ rw is refl | inr none ↦ rw none e ]

module _ (mode : Mode) (t : List Event) where
  -- before the first edge
  pub traced_first : (levels firsts vias : List ℕ) → IsRaised mode t 0 levels → ((k : ℕ) → k < length t → slice_index levels k ≡ own_level t k) → length firsts ≡ length t → length vias ≡ length t → ((k : ℕ) → k < length t → slice_index vias k ≡ 0) → AreTraced mode t 0 levels firsts vias
  traced_first levels firsts vias r own long_firsts long_vias none = record {
    raised_so = r;
    long_firsts = long_firsts;
    long_vias = long_vias;
    via = λ j i e. elim (cases_lt j (length t)) [
      | inl lt ↦ absurd (omega (arith, e, none j lt))
      | inr past ↦ absurd (omega (arith, e, get_or_past vias j 0 (omega (arith, past, long_vias))))
    ];
    onward = λ j lt. elim (cases_lt j (length t)) [
      | inl within ↦ absurd (omega (arith, lt, own j within))
      | inr past ↦ absurd (omega (arith, lt, get_or_past levels j 0 (omega (arith, past, r.long))))
    ];
    least = λ m e lt. absurd (omega arith);
  }

  module _ (n : ℕ) (e : Edge) (levels firsts vias : List ℕ) (at : slice_get (edges_of mode t) n ≡ Some e) (a : AreTraced mode t n levels firsts vias) where
    edge : is_edge mode t e.before e.after ≡ true
    edge = (listed_edge mode t (length t) n e at).0

    forward : e.before < e.after
    forward = edge_less mode t e.before e.after edge

    ends : (e.before < length t) × (e.after < length t)
    ends = ends_within mode t n e at

    -- what the edge leads from is from earlier events than its later one
    before_other : (m : ℕ) (f : Edge) → m < n → slice_get (edges_of mode t) m ≡ Some f → f.before ≡ e.after → ⊥
    before_other m f lt at' same =
        let order : f.after ≤ e.after = listed_in_order mode t (length t) m n f e (omega (arith, lt)) at' at in
        omega (arith, same, order, edge_less mode t f.before f.after (listed_edge mode t (length t) m f at').0)

    level_other : (k : ℕ) → (k ≡ e.after → ⊥) → slice_index (raised t e levels) k ≡ slice_index levels k
    level_other k ne = get_or-set_other levels e.after k (max (slice_index levels e.after) (slice_index levels e.before + own_level t e.after)) 0 ne

    level_after : slice_index (raised t e levels) e.after ≡ max (slice_index levels e.after) (slice_index levels e.before + own_level t e.after)
    level_after = get_or-set_same levels e.after (max (slice_index levels e.after) (slice_index levels e.before + own_level t e.after)) 0 (omega (arith, ends.1, a.raised_so.long))

    first_other : (k : ℕ) → (k ≡ e.after → ⊥) → slice_index (firsts_after t levels firsts e) k ≡ slice_index firsts k
    first_other k ne = elim (cases_Bool (is_better t levels firsts e)) [
      | inl on ↦ ap (λ b. slice_index (cond b (slice_set firsts e.after (top t firsts e.before)) firsts) k) on ∙ get_or-set_other firsts e.after k (top t firsts e.before) 0 ne
      | inr off ↦ ap (λ b. slice_index (cond b (slice_set firsts e.after (top t firsts e.before)) firsts) k) off
    ]

    via_other : (k : ℕ) → (k ≡ e.after → ⊥) → slice_index (vias_after t levels firsts vias e) k ≡ slice_index vias k
    via_other k ne = elim (cases_Bool (is_better t levels firsts e)) [
      | inl on ↦ ap (λ b. slice_index (cond b (slice_set vias e.after (suc e.before)) vias) k) on ∙ get_or-set_other vias e.after k (suc e.before) 0 ne
      | inr off ↦ ap (λ b. slice_index (cond b (slice_set vias e.after (suc e.before)) vias) k) off
    ]

    top_other : (k : ℕ) → (k ≡ e.after → ⊥) → top t (firsts_after t levels firsts e) k ≡ top t firsts k
    top_other k ne = top_same t firsts (firsts_after t levels firsts e) k (first_other k ne)

    -- the edge is better
    record Yes : Type 0 where
      positive : 1 ≤ slice_index levels e.before
      level : slice_index (raised t e levels) e.after ≡ slice_index levels e.before + own_level t e.after
      first : slice_index (firsts_after t levels firsts e) e.after ≡ top t firsts e.before
      via : slice_index (vias_after t levels firsts vias e) e.after ≡ suc e.before
      why : (slice_index levels e.after < slice_index levels e.before + own_level t e.after) ⊎ (top t firsts e.before < slice_index firsts e.after)
      most : slice_index levels e.after ≤ slice_index levels e.before + own_level t e.after

    -- it isn't
    record No : Type 0 where
      level : slice_index (raised t e levels) e.after ≡ slice_index levels e.after
      first : slice_index (firsts_after t levels firsts e) e.after ≡ slice_index firsts e.after
      via : slice_index (vias_after t levels firsts vias e) e.after ≡ slice_index vias e.after
      enough : 1 ≤ slice_index levels e.before → slice_index levels e.before + own_level t e.after ≤ slice_index levels e.after
      least : 1 ≤ slice_index levels e.before → slice_index levels e.before + own_level t e.after ≡ slice_index levels e.after → slice_index firsts e.after ≤ top t firsts e.before

    yes_or_no : Yes ⊎ No
    yes_or_no = elim (cases_Bool (is_better t levels firsts e)) [
      | inl on ↦
          let more = nat_lt (slice_index levels e.after) (slice_index levels e.before + own_level t e.after) in
          let even = slice_index levels e.after == slice_index levels e.before + own_level t e.after in
          let sooner = nat_lt (top t firsts e.before) (slice_index firsts e.after) in
          let parts = and_parts (nat_lt 0 (slice_index levels e.before)) (more || (even && sooner)) on in
          let why : (slice_index levels e.after < slice_index levels e.before + own_level t e.after) ⊎ ((slice_index levels e.after ≡ slice_index levels e.before + own_level t e.after) × (top t firsts e.before < slice_index firsts e.after)) = elim (or_cases more (even && sooner) parts.1) [
            | inl h ↦ inl (ltb-true (slice_index levels e.after) (slice_index levels e.before + own_level t e.after) h)
            | inr h ↦ let both = and_parts even sooner h in inr (eqb-true (slice_index levels e.after) (slice_index levels e.before + own_level t e.after) both.0, ltb-true (top t firsts e.before) (slice_index firsts e.after) both.1)
          ] in
          let most : slice_index levels e.after ≤ slice_index levels e.before + own_level t e.after = elim why [ inl lt ↦ omega (arith, lt) | inr (eq, lt) ↦ omega (arith, eq) ] in
          inl (record {
            positive = omega (arith, ltb-true 0 (slice_index levels e.before) parts.0);
            level = omega (arith, level_after, most);
            first = ap (λ b. slice_index (cond b (slice_set firsts e.after (top t firsts e.before)) firsts) e.after) on ∙ get_or-set_same firsts e.after (top t firsts e.before) 0 (omega (arith, ends.1, a.long_firsts));
            via = ap (λ b. slice_index (cond b (slice_set vias e.after (suc e.before)) vias) e.after) on ∙ get_or-set_same vias e.after (suc e.before) 0 (omega (arith, ends.1, a.long_vias));
            why = elim why [ inl lt ↦ inl lt | inr (eq, lt) ↦ inr lt ];
            most = most;
          })
      | inr off ↦
          let more = nat_lt (slice_index levels e.after) (slice_index levels e.before + own_level t e.after) in
          let even = slice_index levels e.after == slice_index levels e.before + own_level t e.after in
          let sooner = nat_lt (top t firsts e.before) (slice_index firsts e.after) in
          let not_more : 1 ≤ slice_index levels e.before → slice_index levels e.after < slice_index levels e.before + own_level t e.after → ⊥ = λ one lt. both_ways (is_better t levels firsts e) off (and_from (nat_lt 0 (slice_index levels e.before)) (more || (even && sooner)) (lt-ltb 0 (slice_index levels e.before) (omega (arith, one))) (or_left more (even && sooner) (lt-ltb (slice_index levels e.after) (slice_index levels e.before + own_level t e.after) lt))) in
          let not_sooner : 1 ≤ slice_index levels e.before → slice_index levels e.after ≡ slice_index levels e.before + own_level t e.after → top t firsts e.before < slice_index firsts e.after → ⊥ = λ one eq lt. both_ways (is_better t levels firsts e) off (and_from (nat_lt 0 (slice_index levels e.before)) (more || (even && sooner)) (lt-ltb 0 (slice_index levels e.before) (omega (arith, one))) (or_right more (even && sooner) (and_from even sooner (eq-eqb (slice_index levels e.after) (slice_index levels e.before + own_level t e.after) eq) (lt-ltb (top t firsts e.before) (slice_index firsts e.after) lt)))) in
          let enough : 1 ≤ slice_index levels e.before → slice_index levels e.before + own_level t e.after ≤ slice_index levels e.after = λ one. elim (cases_lt (slice_index levels e.after) (slice_index levels e.before + own_level t e.after)) [ inl lt ↦ absurd (not_more one lt) | inr le ↦ le ] in
          inr (record {
            level = elim (cases_lt 0 (slice_index levels e.before)) [
              | inl one ↦ omega (arith, level_after, enough (omega (arith, one)))
              | inr zero_ ↦ omega (arith, level_after, zero_, own_most t levels a.raised_so.least e.after)
            ];
            first = ap (λ b. slice_index (cond b (slice_set firsts e.after (top t firsts e.before)) firsts) e.after) off;
            via = ap (λ b. slice_index (cond b (slice_set vias e.after (suc e.before)) vias) e.after) off;
            enough = enough;
            least = λ one eq. elim (cases_lt (top t firsts e.before) (slice_index firsts e.after)) [ inl lt ↦ absurd (not_sooner one (sym eq) lt) | inr le ↦ le ];
          })
    ]

    -- a via of an event that isn't raised stays
    kept : (k i : ℕ) → (k ≡ e.after → ⊥) ⊎ No → slice_index vias k ≡ suc i → IsVia mode t (raised t e levels) (firsts_after t levels firsts e) k i × ((m : ℕ) × (m < n + 1) × (slice_get (edges_of mode t) m ≡ Some (edge_from k i)))
    kept k i same is =
        let old = a.via k i is in
        let v = old.0 in
        let m = old.1.0 in
        let other : i ≡ e.after → ⊥ = before_other m (edge_from k i) old.1.1 old.1.2 in
        let level : slice_index (raised t e levels) k ≡ slice_index levels k = elim (cases_eq k e.after) [
          | inl here ↦ elim same [ inl ne ↦ absurd (ne here) | inr no_ ↦ ap (slice_index (raised t e levels)) here ∙ no_.level ∙ ap (slice_index levels) (sym here) ]
          | inr ne ↦ level_other k ne
        ] in
        let first : slice_index (firsts_after t levels firsts e) k ≡ slice_index firsts k = elim (cases_eq k e.after) [
          | inl here ↦ elim same [ inl ne ↦ absurd (ne here) | inr no_ ↦ ap (slice_index (firsts_after t levels firsts e)) here ∙ no_.first ∙ ap (slice_index firsts) (sym here) ]
          | inr ne ↦ first_other k ne
        ] in (
          record {
            edge = v.edge;
            level = omega (arith, level_other i other, level, v.level);
            positive = omega (arith, level_other i other, v.positive);
            first = first ∙ v.first ∙ sym (top_other i other);
          },
          (m, omega (arith, old.1.1), old.1.2),
        )

    via_after : (k i : ℕ) → slice_index (vias_after t levels firsts vias e) k ≡ suc i → IsVia mode t (raised t e levels) (firsts_after t levels firsts e) k i × ((m : ℕ) × (m < n + 1) × (slice_get (edges_of mode t) m ≡ Some (edge_from k i)))
    via_after k i is = elim (cases_eq k e.after) [
      | inr ne ↦ kept k i (inl ne) (sym (via_other k ne) ∙ is)
      | inl here ↦ elim yes_or_no [
        | inr no_ ↦ kept k i (inr no_) (ap (slice_index vias) here ∙ sym no_.via ∙ ap (slice_index (vias_after t levels firsts vias e)) (sym here) ∙ is)
        | inl y ↦
            let same : i ≡ e.before = omega (arith, is, ap (slice_index (vias_after t levels firsts vias e)) here, y.via) in
            let other : e.before ≡ e.after → ⊥ = λ bad. omega (arith, bad, forward) in
            subst (λ x. IsVia mode t (raised t e levels) (firsts_after t levels firsts e) x i × ((m : ℕ) × (m < n + 1) × (slice_get (edges_of mode t) m ≡ Some (edge_from x i)))) (sym here)
            (subst (λ x. IsVia mode t (raised t e levels) (firsts_after t levels firsts e) e.after x × ((m : ℕ) × (m < n + 1) × (slice_get (edges_of mode t) m ≡ Some (edge_from e.after x)))) (sym same) (
              record {
                edge = edge;
                level = omega (arith, level_other e.before other, y.level);
                positive = omega (arith, level_other e.before other, y.positive);
                first = y.first ∙ sym (top_other e.before other);
              },
              (n, omega arith, at),
            ))
      ]
    ]

    onward_after : (k : ℕ) → own_level t k < slice_index (raised t e levels) k → 1 ≤ slice_index (vias_after t levels firsts vias e) k
    onward_after k lt = elim (cases_eq k e.after) [
      | inr ne ↦ omega (arith, via_other k ne, a.onward k (omega (arith, lt, level_other k ne)))
      | inl here ↦ subst (λ x. 1 ≤ slice_index (vias_after t levels firsts vias e) x) (sym here) (elim yes_or_no [
        | inl y ↦ omega (arith, y.via)
        | inr no_ ↦ omega (arith, no_.via, a.onward e.after (subst (λ x. own_level t x < slice_index levels x) here (omega (arith, lt, ap (slice_index (raised t e levels)) here, no_.level, ap (slice_index levels) here))))
      ])
    ]

    least_after : (m : ℕ) (f : Edge) → m < n + 1 → slice_get (edges_of mode t) m ≡ Some f → 1 ≤ slice_index (raised t e levels) f.before → slice_index (raised t e levels) f.before + own_level t f.after ≡ slice_index (raised t e levels) f.after → slice_index (firsts_after t levels firsts e) f.after ≤ top t (firsts_after t levels firsts e) f.before
    least_after m f lt at' one eq = elim (cases_eq m n) [
      | inl same ↦
          let is : f ≡ e = (let two : Some f ≡ Some e = sym at' ∙ ap (slice_get (edges_of mode t)) same ∙ at in cc) in
          let other : e.before ≡ e.after → ⊥ = λ bad. omega (arith, bad, forward) in
          subst (λ (x : Edge). slice_index (firsts_after t levels firsts e) x.after ≤ top t (firsts_after t levels firsts e) x.before) (sym is) (elim yes_or_no [
            | inl y ↦ omega (arith, y.first, top_other e.before other)
            | inr no_ ↦
                let one' : 1 ≤ slice_index levels e.before = omega (arith, subst (λ (x : Edge). 1 ≤ slice_index (raised t e levels) x.before) is one, level_other e.before other) in
                let eq' : slice_index (raised t e levels) e.before + own_level t e.after ≡ slice_index (raised t e levels) e.after = subst (λ (x : Edge). slice_index (raised t e levels) x.before + own_level t x.after ≡ slice_index (raised t e levels) x.after) is eq in
                omega (arith, no_.first, top_other e.before other, no_.least one' (omega (arith, eq', level_other e.before other, no_.level)))
          ])
      | inr ne ↦
          let early : m < n = grind (arith, lt, ne) in
          let other : f.before ≡ e.after → ⊥ = before_other m f early at' in
          let old = a.least m f early at' in
          elim (cases_eq f.after e.after) [
            | inr apart ↦ omega (arith, first_other f.after apart, top_other f.before other, old (omega (arith, one, level_other f.before other)) (omega (arith, eq, level_other f.before other, level_other f.after apart)))
            | inl here ↦
                let up = up_sum t levels f.before f.after (a.raised_so.up m f early at') in
                let level = ap (slice_index levels) here in
                let level' = ap (slice_index (raised t e levels)) here in
                let first = ap (slice_index firsts) here in
                let first' = ap (slice_index (firsts_after t levels firsts e)) here in
                elim yes_or_no [
                  | inr no_ ↦ omega (arith, first', no_.first, first, top_other f.before other, old (omega (arith, one, level_other f.before other)) (omega (arith, eq, level_other f.before other, level', no_.level, level)))
                  | inl y ↦ elim y.why [
                    | inl more ↦ absurd (omega (arith, eq, level_other f.before other, level', y.level, more, up, level))
                    | inr sooner ↦ omega (arith, first', y.first, top_other f.before other, sooner, first, old (omega (arith, one, level_other f.before other)) (omega (arith, eq, level_other f.before other, level', y.level, y.most, up, level)))
                  ]
                ]
          ]
    ]

    pub traced_more : AreTraced mode t (n + 1) (raised t e levels) (firsts_after t levels firsts e) (vias_after t levels firsts vias e)
    traced_more = record {
      raised_so = raised_more mode t n e levels at a.raised_so;
      long_firsts = elim (cases_Bool (is_better t levels firsts e)) [
        | inl on ↦ ap (λ b. length (cond b (slice_set firsts e.after (top t firsts e.before)) firsts)) on ∙ length-set firsts e.after (top t firsts e.before) ∙ a.long_firsts
        | inr off ↦ ap (λ b. length (cond b (slice_set firsts e.after (top t firsts e.before)) firsts)) off ∙ a.long_firsts
      ];
      long_vias = elim (cases_Bool (is_better t levels firsts e)) [
        | inl on ↦ ap (λ b. length (cond b (slice_set vias e.after (suc e.before)) vias)) on ∙ length-set vias e.after (suc e.before) ∙ a.long_vias
        | inr off ↦ ap (λ b. length (cond b (slice_set vias e.after (suc e.before)) vias)) off ∙ a.long_vias
      ];
      via = via_after;
      onward = onward_after;
      least = least_after;
    }

-- all edges were followed
module _ (mode : Mode) (t : List Event) (n : ℕ) (levels firsts vias : List ℕ) (all : length (edges_of mode t) ≤ n) (a : AreTraced mode t n levels firsts vias) where
  are_levels : AreLevels mode t levels
  are_levels = raised_levels mode t n levels all a.raised_so

  pub traced_linked : AreVias mode t levels firsts vias
  traced_linked = record { long = a.long_vias; via = λ j i e. (a.via j i e).0; onward = a.onward }

  persist_own : (j : ℕ) → event_is is_persist t j ≡ true → own_level t j ≡ 1
  persist_own j is = rw is refl

  other_own : (j : ℕ) → event_is is_persist t j ≡ false → own_level t j ≡ 0
  other_own j none = rw none refl

  record Sound (j : ℕ) : Type 0 where
    persist : event_is is_persist t (slice_index firsts j) ≡ true
    level : slice_index levels (slice_index firsts j) + own_level t j ≡ slice_index levels j
    path : LeadsTo mode t (slice_index firsts j) j

  sound : (fuel j : ℕ) → j < fuel → own_level t j < slice_index levels j → Sound j
  sound zero j lt more = absurd (omega arith)
  sound (suc fuel) j lt more = go (λ i less up. sound fuel i less up) (slice_index vias j) refl
    where
      go : ((i : ℕ) → i < fuel → own_level t i < slice_index levels i → Sound i) → (v : ℕ) → slice_index vias j ≡ v → Sound j
      go earlier zero e = absurd (omega (arith, e, a.onward j more))
      go earlier (suc i) e =
          let v = (a.via j i e).0 in
          elim (cases_Bool (event_is is_persist t i)) [
            | inl is ↦
                let here : slice_index firsts j ≡ i = v.first ∙ ap (λ b. cond b i (slice_index firsts i)) is in
                record {
                  persist = ap (event_is is_persist t) here ∙ is;
                  level = ap (λ x. slice_index levels x + own_level t j) here ∙ v.level;
                  path = subst (λ x. LeadsTo mode t x j) (sym here) ([], v.edge);
                }
            | inr none ↦
                let here : slice_index firsts j ≡ slice_index firsts i = v.first ∙ ap (λ b. cond b i (slice_index firsts i)) none in
                let zero_ = other_own i none in
                let below = earlier i (omega (arith, lt, edge_less mode t i j v.edge)) (omega (arith, zero_, v.positive)) in
                record {
                  persist = ap (event_is is_persist t) here ∙ below.persist;
                  level = omega (arith, ap (slice_index levels) here, below.level, zero_, v.level);
                  path = subst (λ x. LeadsTo mode t x j) (sym here) (then_edge mode t (slice_index firsts i) i j below.path v.edge);
                }
          ]

  path_le : (r : ℕ) (xs : List ℕ) (i : ℕ) → EdgePath mode t r xs i → slice_index levels r ≤ slice_index levels i
  path_le r [] i e = up_le mode t levels are_levels r i e
  path_le r (x ∷ xs) i p = omega (arith, up_le mode t levels are_levels r x p.0, path_le x xs i p.1)

  -- the last edge of a path
  last_edge : (r : ℕ) (xs : List ℕ) (j : ℕ) → EdgePath mode t r xs j → (is_edge mode t r j ≡ true) ⊎ ((i : ℕ) × LeadsTo mode t r i × (is_edge mode t i j ≡ true))
  last_edge r [] j e = inl e
  last_edge r (x ∷ xs) j p = elim (last_edge x xs j p.1) [
    | inl e ↦ inr (x, ([], p.0), e)
    | inr (i, path, e) ↦ inr (i, (x ∷ path.0, (p.0, path.1)), e)
  ]

  least_edge : (i j : ℕ) → is_edge mode t i j ≡ true → 1 ≤ slice_index levels i → slice_index levels i + own_level t j ≡ slice_index levels j → slice_index firsts j ≤ top t firsts i
  least_edge i j e one level =
      let found = edge_listed mode t (length t) i j (edge_within mode t i j e) e in
      a.least found.0 (edge_from j i) (omega (arith, all, slice_get_within (edges_of mode t) found.0 (edge_from j i) found.1)) found.1 one level

  first_so : (fuel j r : ℕ) → j < fuel → event_is is_persist t r ≡ true → slice_index levels r + own_level t j ≡ slice_index levels j → LeadsTo mode t r j → slice_index firsts j ≤ r
  first_so zero j r lt is level path = absurd (omega arith)
  first_so (suc fuel) j r lt is level path =
      let one = a.raised_so.least r is in
      elim (last_edge r path.0 j path.1) [
        | inl e ↦ omega (arith, least_edge r j e one level, (let here : top t firsts r ≡ r = ap (λ b. cond b r (slice_index firsts r)) is in here))
        | inr (i, before, e) ↦
            let up = up_sum t levels i j (are_levels.rise i j e) in
            elim (cases_Bool (event_is is_persist t i)) [
              | inl persist ↦ absurd (omega (arith, path_lt mode t levels are_levels r before.0 i before.1 persist, up, level))
              | inr none ↦
                  let zero_ = other_own i none in
                  let same : slice_index levels i ≡ slice_index levels r = omega (arith, path_le r before.0 i before.1, up, level) in
                  let rest = first_so fuel i r (omega (arith, lt, edge_less mode t i j e)) is (omega (arith, same, zero_)) before in
                  let here : top t firsts i ≡ slice_index firsts i = ap (λ b. cond b i (slice_index firsts i)) none in
                  omega (arith, least_edge i j e (omega (arith, same, one)) (omega (arith, same, level)), here, rest)
            ]
      ]

  pub traced_firsts : AreFirsts mode t levels firsts
  traced_firsts = record {
    long = a.long_firsts;
    pick = λ q level is at one.
        let own = persist_own q is in
        let s = sound (suc q) q (omega arith) (omega (arith, own, at, one)) in
        record {
          persist = s.persist;
          level_is = omega (arith, s.level, own, at);
          path = s.path;
          first = λ r persist same path. first_so (suc q) q r (omega arith) persist (omega (arith, own, at, same)) path;
        };
  }
