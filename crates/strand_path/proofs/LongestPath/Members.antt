-- Serves longest, by members: the members of the chosen chain, from the last to the first.
use Rattle.std.proofs.Common.{◌≡◌, ℕ, zero, suc, ◌<◌, ◌≤◌, true, inl, inr, List, length, refl, sym, ap, ◌∙◌, arith, subst}
use Rattle.std.specs.Prelude.{slice_index, slice_set, ◌==◌, max}
use Rattle.std.proofs.lemmas.Bool.{cases_eq, cases_lt, cases_Bool, and_from, eq-eqb}
use Rattle.std.proofs.lemmas.List.{get_or-set_other, get_or-set_same, length-set}
use Rattle.strand_inputs.specs.declared.mode.Mode.{Mode}
use Rattle.strand_events.specs.declared.event.Event.{Event}
use Rattle.strand_events.specs.Trace.{is_persist, event_is}
use Rattle.strand_order.proofs.Paths.Path.{path_less}
use Rattle.strand_path.specs.Checked.{greatest_below}
use Rattle.strand_path.specs.Building.{own_level}
use Rattle.strand_path.specs.Tracing.{AreFirsts, AreVias}
use Rattle.strand_path.specs.Picking.{is_of_level, IsSome, IsPick, ArePicked}

level_from : (t : List Event) (levels : List ℕ) (level k : ℕ) → event_is is_persist t k ≡ true → slice_index levels k ≡ level → is_of_level t levels level k ≡ true
level_from t levels level k is at = and_from (event_is is_persist t k) (slice_index levels k == level) is (eq-eqb (slice_index levels k) level at)

-- some persist has the greatest level
pub greatest_some : (t : List Event) (levels : List ℕ) (n : ℕ) → 1 ≤ greatest_below t levels n → IsSome n (is_of_level t levels (greatest_below t levels n))
greatest_some t levels zero one = absurd (omega arith)
greatest_some t levels (suc n) one = elim (cases_Bool (event_is is_persist t n)) [
  | inl is ↦
      let top : greatest_below t levels (suc n) ≡ max (slice_index levels n) (greatest_below t levels n) = rw is refl in
      elim (cases_lt (slice_index levels n) (greatest_below t levels n)) [
        | inl less ↦
            let below = greatest_some t levels n (omega (arith, less)) in
            let same : greatest_below t levels (suc n) ≡ greatest_below t levels n = omega (arith, top, less) in
            record { some_ = below.some_; within = omega (arith, below.within); passes = ap (λ v. is_of_level t levels v below.some_) same ∙ below.passes }
        | inr more ↦
            let same : slice_index levels n ≡ greatest_below t levels (suc n) = omega (arith, top, more) in
            record { some_ = n; within = omega arith; passes = level_from t levels (greatest_below t levels (suc n)) n is same }
      ]
  | inr none ↦
      let same : greatest_below t levels (suc n) ≡ greatest_below t levels n = rw none refl in
      let below = greatest_some t levels n (omega (arith, same, one)) in
      record { some_ = below.some_; within = omega (arith, below.within); passes = ap (λ v. is_of_level t levels v below.some_) same ∙ below.passes }
]

module _ (mode : Mode) (t : List Event) where
  -- one member more
  pub picked_more : (levels chain : List ℕ) (n p : ℕ) → suc n < length chain → IsPick mode t levels (slice_index chain (suc n)) (suc n) p → ArePicked mode t levels chain (suc n) → ArePicked mode t levels (slice_set chain n p) n
  picked_more levels chain n p inside pick a =
      let size : length (slice_set chain n p) ≡ length chain = length-set chain n p in
      let here : slice_index (slice_set chain n p) n ≡ p = get_or-set_same chain n p 0 (omega (arith, inside)) in
      let other = λ (k : ℕ) (ne : k ≡ n → ⊥). get_or-set_other chain n k p 0 ne in
      record {
        long = size ∙ a.long;
        persist = λ k le lt. elim (cases_eq k n) [
          | inl same ↦ ap (λ x. event_is is_persist t (slice_index (slice_set chain n p) x)) same ∙ ap (event_is is_persist t) here ∙ pick.persist
          | inr ne ↦ let far : suc n ≤ k = grind (arith, le, ne) in ap (event_is is_persist t) (other k ne) ∙ a.persist k far (omega (arith, lt, size))
        ];
        level = λ k le lt. elim (cases_eq k n) [
          | inl same ↦ ap (λ x. slice_index levels (slice_index (slice_set chain n p) x)) same ∙ ap (slice_index levels) here ∙ pick.level_is ∙ ap suc (sym same)
          | inr ne ↦ let far : suc n ≤ k = grind (arith, le, ne) in ap (slice_index levels) (other k ne) ∙ a.level k far (omega (arith, lt, size))
        ];
        last = λ k le e r is at.
            let far : suc n ≤ k = omega (arith, e, size, inside) in
            let ne : k ≡ n → ⊥ = λ bad. omega (arith, bad, far) in
            omega (arith, other k ne, a.last k far (e ∙ size) r is at);
        pick = λ k le lt. elim (cases_eq k n) [
          | inl same ↦
              let next : slice_index (slice_set chain n p) (suc n) ≡ slice_index chain (suc n) = other (suc n) (λ bad. omega (arith, bad)) in
              subst (λ x. IsPick mode t levels (slice_index (slice_set chain n p) (suc x)) (suc x) (slice_index (slice_set chain n p) x)) (sym same)
              (subst (λ y. IsPick mode t levels y (suc n) (slice_index (slice_set chain n p) n)) (sym next) (subst (λ y. IsPick mode t levels (slice_index chain (suc n)) (suc n) y) (sym here) pick))
          | inr ne ↦
              let far : suc n ≤ k = grind (arith, le, ne) in
              let next : slice_index (slice_set chain n p) (suc k) ≡ slice_index chain (suc k) = other (suc k) (λ bad. omega (arith, bad, far)) in
              subst (λ y. IsPick mode t levels y (suc k) (slice_index (slice_set chain n p) k)) (sym next) (subst (λ y. IsPick mode t levels (slice_index chain (suc k)) (suc k) y) (sym (other k ne)) (a.pick k far (omega (arith, lt, size))))
        ];
      }

  -- there is one pick
  pick_one : (levels : List ℕ) (q level p r : ℕ) → IsPick mode t levels q level p → IsPick mode t levels q level r → p ≡ r
  pick_one levels q level p r a b = omega (arith, a.first r b.persist b.level_is b.path, b.first p a.persist a.level_is a.path)

  -- the members rise
  pub members_rise : (levels members : List ℕ) → ArePicked mode t levels members 0 → (k : ℕ) → suc k < length members → slice_index members k < slice_index members (suc k)
  members_rise levels members a k lt =
      let pick = a.pick k (omega arith) lt in
      path_less mode t pick.path.0 (slice_index members k) (slice_index members (suc k)) pick.path.1

  -- each member but the first is linked to the one before
  pub member_linked : (levels firsts vias members : List ℕ) → AreFirsts mode t levels firsts → AreVias mode t levels firsts vias → ArePicked mode t levels members 0 → (k : ℕ) → suc k < length members
      → (slice_index firsts (slice_index members (suc k)) ≡ slice_index members k) × (1 ≤ slice_index vias (slice_index members (suc k)))
  member_linked levels firsts vias members f linked a k lt =
      let q = slice_index members (suc k) in
      let is = a.persist (suc k) (omega arith) lt in
      let level = a.level (suc k) (omega arith) lt in
      let own : own_level t q ≡ 1 = rw is refl in
      (pick_one levels q (suc k) (slice_index firsts q) (slice_index members k) (f.pick q (suc k) is level (omega arith)) (a.pick k (omega arith) lt), linked.onward q (omega (arith, own, level)))
