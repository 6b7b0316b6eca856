-- Serves clause counted of cache_laws: each more recent line counts once, at its last access by the core.
use Rattle.std.proofs.Common.{◌≡◌, ℕ, zero, suc, ◌<◌, Bool, true, false, ◌&&◌, inl, inr, List, refl, sym, ap, ◌∙◌, subst, arith}
use Rattle.std.specs.Prelude.{not, nat_lt, slice_get, ◌==◌}
use Rattle.std.proofs.lemmas.Bool.{cases_Bool, cases_eq, cases_order, and_parts, and_from, and_left, and_right, or_left, eqb-true, eq-eqb, ne_eqb, false_from_ne_true}
use Rattle.strand_base.specs.Counting.{any_below, count_below}
use Rattle.strand_base.proofs.BelowBound.{any_true, any_from, count_agree, count_yes, count_no, at_or_below}
use Rattle.strand_cache.specs.Accesses.{LineAccess, touches, access_is, line_at}
use Rattle.strand_cache.specs.Hits.{Shape, same_set, is_intact, other_lines}
use Rattle.strand_cache.proofs.Lists.Newest.{same_tests, any_none}
use Rattle.strand_cache.proofs.Lists.OneMore.{is_recent}
use Rattle.strand_cache.proofs.Lists.Recency.{own_line, intact_last_one, last_touches, not_again}

-- one number more passes the second test
count_one_more : (bound at : ℕ) (f h : ℕ → Bool) → at < bound → f at ≡ false → h at ≡ true → ((l : ℕ) → (l ≡ at → ⊥) → h l ≡ f l) → count_below bound h ≡ suc (count_below bound f)
count_one_more zero at f h lt no_ yes_ same = absurd (omega arith)
count_one_more (suc n) at f h lt no_ yes_ same = elim (cases_eq at n) [
  | inl e ↦
      let here : h n ≡ true = ap h (sym e) ∙ yes_ in
      let none : f n ≡ false = ap f (sym e) ∙ no_ in
      count_yes n h here ∙ ap suc (count_agree n h f (λ k below. same k (λ e'. omega arith)) ∙ sym (count_no n f none))
  | inr ne ↦
      let below : at < n = at_or_below lt ne in
      let rest = count_one_more n at f h below no_ yes_ same in
      let here : h n ≡ f n = same n (λ e. ne (sym e)) in
      elim (cases_Bool (f n)) [
        | inl y ↦ count_yes n h (here ∙ y) ∙ ap suc rest ∙ ap suc (sym (count_yes n f y))
        | inr y ↦ count_no n h (here ∙ y) ∙ rest ∙ ap suc (sym (count_no n f y))
      ]
]

-- moments that pass, each with a line of its own, are as many as their lines
pub count_lines : (n bound : ℕ) (f : ℕ → Bool) (line : ℕ → ℕ) → ((k : ℕ) → k < n → f k ≡ true → line k < bound) → ((k m : ℕ) → k < n → m < n → f k ≡ true → f m ≡ true → line k ≡ line m → k ≡ m) →
    count_below n f ≡ count_below bound (λ l. any_below n (λ k. f k && (line k == l)))
count_lines zero bound f line low apart = sym (none bound)
  where
    none : (b : ℕ) → count_below b (λ l. false) ≡ 0
    none zero = refl
    none (suc b) = none b
count_lines (suc n) bound f line low apart =
    let rest = count_lines n bound f line (λ k lt. low k (omega arith)) (λ k m lt lt'. apart k m (omega arith) (omega arith)) in
    elim (cases_Bool (f n)) [
      | inl y ↦
          let fresh : any_below n (λ k. f k && (line k == line n)) ≡ false = any_none n (λ k. f k && (line k == line n)) (λ k lt. false_from_ne_true (f k && (line k == line n)) (λ e.
          let parts = and_parts (f k) (line k == line n) e in
          let same : k ≡ n = apart k n (omega arith) (omega arith) parts.0 y (eqb-true (line k) (line n) parts.1) in
          omega arith)) in
          count_yes n f y ∙ ap suc rest ∙ sym (count_one_more bound (line n) (λ l. any_below n (λ k. f k && (line k == l))) (λ l. any_below (suc n) (λ k. f k && (line k == l))) (low n (omega arith) y) fresh
          (or_left (f n && (line n == line n)) (any_below n (λ k. f k && (line k == line n))) (and_from (f n) (line n == line n) y (eq-eqb (line n) (line n) refl)))
          (λ l ne. let e : (f n && (line n == l)) ≡ false = and_right (f n) (line n == l) (ne_eqb (line n) l (λ e. ne (sym e))) in rw e refl))
      | inr y ↦ count_no n f y ∙ rest ∙ sym (count_agree bound (λ l. any_below (suc n) (λ k. f k && (line k == l))) (λ l. any_below n (λ k. f k && (line k == l))) (λ l lt. let e : (f n && (line n == l)) ≡ false = and_left (f n) (line n == l) y in rw e refl))
    ]

-- the other lines are as many as the lines that the core accessed after i, with no foreign store since
pub lines_counted : (shape : Shape) (core line : ℕ) (xs : List LineAccess) (i s bound : ℕ) → ((k : ℕ) → line_at xs k < bound) →
    other_lines shape core line xs i s ≡ count_below bound (λ other. same_set shape other line && not (other == line) && any_below (suc s) (λ k. nat_lt i k && is_intact core other xs (suc s) k))
lines_counted shape core line xs i s bound low =
    count_lines (suc s) bound (is_recent shape core line xs (suc s) i) (line_at xs) (λ k lt h. low k) apart ∙
    count_agree bound (λ l. any_below (suc s) (λ k. is_recent shape core line xs (suc s) i k && (line_at xs k == l))) (λ other. same_set shape other line && not (other == line) && any_below (suc s) (λ k. nat_lt i k && is_intact core other xs (suc s) k)) (λ l lt. same l)
  where
    intact_of : (k : ℕ) → is_recent shape core line xs (suc s) i k ≡ true → (nat_lt i k ≡ true) × (same_set shape (line_at xs k) line ≡ true) × (not (line_at xs k == line) ≡ true) × (is_intact core (line_at xs k) xs (suc s) k ≡ true)
    intact_of k h =
        let one = and_parts (nat_lt i k && same_set shape (line_at xs k) line && not (line_at xs k == line)) (is_intact core (line_at xs k) xs (suc s) k) h in
        let two = and_parts (nat_lt i k && same_set shape (line_at xs k) line) (not (line_at xs k == line)) one.0 in
        let three = and_parts (nat_lt i k) (same_set shape (line_at xs k) line) two.0 in
        (three.0, three.1, two.1, one.1)

    apart : (k m : ℕ) → k < suc s → m < suc s → is_recent shape core line xs (suc s) i k ≡ true → is_recent shape core line xs (suc s) i m ≡ true → line_at xs k ≡ line_at xs m → k ≡ m
    apart k m lt lt' h h' e =
        let a = intact_of k h in
        let b = intact_of m h' in
        let last = intact_last_one shape core xs (line_at xs k) (suc s) k a.3 in
        let last' = intact_last_one shape core xs (line_at xs m) (suc s) m b.3 in
        let touch = last_touches shape core xs (line_at xs k) (suc s) k last in
        let touch' = last_touches shape core xs (line_at xs m) (suc s) m last' in
        elim (cases_order k m) [
          | inl is ↦ is
          | inr others ↦ elim others [
            | inl before ↦ absurd (not_again shape core xs (line_at xs k) (suc s) k m last before lt' (subst (λ l. access_is (touches core l) xs m ≡ true) (sym e) touch'))
            | inr later ↦ absurd (not_again shape core xs (line_at xs m) (suc s) m k last' later lt (subst (λ l. access_is (touches core l) xs k ≡ true) e touch))
          ]
        ]

    same : (l : ℕ) → any_below (suc s) (λ k. is_recent shape core line xs (suc s) i k && (line_at xs k == l)) ≡ (same_set shape l line && not (l == line) && any_below (suc s) (λ k. nat_lt i k && is_intact core l xs (suc s) k))
    same l =
        same_tests (any_below (suc s) (λ k. is_recent shape core line xs (suc s) i k && (line_at xs k == l))) (same_set shape l line && not (l == line) && any_below (suc s) (λ k. nat_lt i k && is_intact core l xs (suc s) k))
        (λ h.
        let f = any_true (suc s) (λ k. is_recent shape core line xs (suc s) i k && (line_at xs k == l)) h in
        let parts = and_parts (is_recent shape core line xs (suc s) i f.0) (line_at xs f.0 == l) f.2 in
        let is = eqb-true (line_at xs f.0) l parts.1 in
        let a = intact_of f.0 parts.0 in
        and_from (same_set shape l line && not (l == line)) (any_below (suc s) (λ k. nat_lt i k && is_intact core l xs (suc s) k))
        (and_from (same_set shape l line) (not (l == line)) (ap (λ o. same_set shape o line) (sym is) ∙ a.1) (ap (λ o. not (o == line)) (sym is) ∙ a.2))
        (any_from (suc s) (λ k. nat_lt i k && is_intact core l xs (suc s) k) f.0 f.1 (and_from (nat_lt i f.0) (is_intact core l xs (suc s) f.0) a.0 (ap (λ o. is_intact core o xs (suc s) f.0) (sym is) ∙ a.3))))
        (λ h.
        let one = and_parts (same_set shape l line && not (l == line)) (any_below (suc s) (λ k. nat_lt i k && is_intact core l xs (suc s) k)) h in
        let two = and_parts (same_set shape l line) (not (l == line)) one.0 in
        let f = any_true (suc s) (λ k. nat_lt i k && is_intact core l xs (suc s) k) one.1 in
        let parts = and_parts (nat_lt i f.0) (is_intact core l xs (suc s) f.0) f.2 in
        let is : line_at xs f.0 ≡ l = own_line core l (slice_get xs f.0) (last_touches shape core xs l (suc s) f.0 (intact_last_one shape core xs l (suc s) f.0 parts.1)) in
        any_from (suc s) (λ k. is_recent shape core line xs (suc s) i k && (line_at xs k == l)) f.0 f.1
        (and_from (is_recent shape core line xs (suc s) i f.0) (line_at xs f.0 == l)
        (and_from (nat_lt i f.0 && same_set shape (line_at xs f.0) line && not (line_at xs f.0 == line)) (is_intact core (line_at xs f.0) xs (suc s) f.0)
        (and_from (nat_lt i f.0 && same_set shape (line_at xs f.0) line) (not (line_at xs f.0 == line))
        (and_from (nat_lt i f.0) (same_set shape (line_at xs f.0) line) parts.0 (ap (λ o. same_set shape o line) is ∙ two.0))
        (ap (λ o. not (o == line)) is ∙ two.1))
        (ap (λ o. is_intact core o xs (suc s) f.0) is ∙ parts.1))
        (eq-eqb (line_at xs f.0) l is)))
