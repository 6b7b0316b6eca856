-- Serves the clauses of sort_by_name and least_repeated: numbers in the order of their names, and the least that is repeated.
use Rattle.std.proofs.Common.{cond, min, ◌≡◌, ℕ, zero, suc, ◌+◌, ◌-◌, ◌<◌, ◌≤◌, arith, inl, inr, Bool, true, false, List, length, get_or, refl, sym, ap, subst, ◌∙◌}
use Rattle.std.specs.List.{Contains, IsDistinct}
use Rattle.std.specs.List.Sorted.{IsPermutation, IsSortedBy}
use Rattle.std.specs.Cmp.{IsTotalOrder, IsStrictWeakOrder}
use Rattle.std.specs.Cmp.Lexicographic.{slice_cmp}
use Rattle.std.specs.Ordering.{nat_cmp, ordering_then, ordering_reverse, is_lt, is_eq}
use Rattle.std.specs.Str.{bytes_eq}
use Rattle.std.specs.Prelude.{nat_eq}
use Rattle.std.specs.declared.cmp.Ordering.{Ordering}
use Rattle.std.specs.declared.cmp.Ordering.TheVariants.{Less, Equal, Greater}
use Rattle.std.proofs.lemmas.Bool.{cases_lt}
use Rattle.std.proofs.lemmas.Bool.Decides.{nat_tests}
use Rattle.std.proofs.lemmas.Cmp.{then_total, on_total, nat_cmp_total, nat_list_cmp_total, tied_itself}
use Rattle.std.proofs.lemmas.List.{get_or_default}
use Rattle.std.proofs.lemmas.List.Sorted.{ranks_by, sorted_far, Contains-permutation, All-permutation, length_permutation}
use Rattle.std.proofs.lemmas.Map.Keys.{apart_from_distinct, IsDistinct-from_apart, IsDistinct-IsPermutation}
use Rattle.std.proofs.lemmas.Map.Text.{is_eq-slice_cmp}
use Rattle.std.proofs.lemmas.Slice.Eq.{bytes_eq-Decides}
use Rattle.strand_image.specs.Checking.{name_at, by_name, IsByName, AreDifferent, lowered}

pub by_name_total : (names : List (List ℕ)) → IsTotalOrder (by_name names)
by_name_total names = then_total (on_total (name_at names) nat_list_cmp_total) nat_cmp_total

pub by_name_weak : (names : List (List ℕ)) → IsStrictWeakOrder (λ x y. is_lt (by_name names x y))
by_name_weak names = ranks_by (by_name_total names) (λ x. x)

-- what the order says of two numbers
greater_than : (x y : ℕ) → y < x → nat_cmp x y ≡ Greater
greater_than x y lt = grind (arith, nat_tests)

less_than : (x y : ℕ) → x < y → nat_cmp x y ≡ Less
less_than x y lt = grind (arith, nat_tests)

is_less : (x y : ℕ) → nat_cmp x y ≡ Less → x < y
is_less x y e = grind (arith, nat_tests)

is_equal : (x y : ℕ) → nat_cmp x y ≡ Equal → x ≡ y
is_equal x y e = grind (arith, nat_tests)

-- a total order tells one way or the other
pub not_both : {K : Type 0} {R : K → K → Ordering} (o : IsTotalOrder R) (x y : K) → R x y ≡ Less → R y x ≡ Less → ⊥
not_both o x y e f = let a = o.antisymm x y in absurd cc

pub is_turned : (r s : Ordering) → r ≡ ordering_reverse s → is_lt s ≡ false → (s ≡ Equal → ⊥) → r ≡ Less
is_turned r Less e f n = absurd cc
is_turned r Equal e f n = absurd (n refl)
is_turned r Greater e f n = e

pub same_names : (x y : List ℕ) → slice_cmp nat_cmp x y ≡ Equal → x ≡ y
same_names x y e = (bytes_eq-Decides x y).0 (sym (is_eq-slice_cmp x y) ∙ ap is_eq e)

pub both_equal : (r s : Ordering) → ordering_then r s ≡ Equal → (r ≡ Equal) × (s ≡ Equal)
both_equal Equal s e = (refl, e)
both_equal Less s e = absurd cc
both_equal Greater s e = absurd cc

-- equal in the order is equal
equal_numbers : (names : List (List ℕ)) (a b : ℕ) → by_name names a b ≡ Equal → a ≡ b
equal_numbers names a b e = is_equal a b (both_equal (slice_cmp nat_cmp (name_at names a) (name_at names b)) (nat_cmp a b) e).1

-- of one name, the lower number stands first
by_number : (names : List (List ℕ)) (a b : ℕ) → name_at names a ≡ name_at names b → by_name names a b ≡ nat_cmp a b
by_number names a b e =
    let tied : slice_cmp nat_cmp (name_at names a) (name_at names b) ≡ Equal = subst (λ (n : List ℕ). slice_cmp nat_cmp (name_at names a) n ≡ Equal) e (tied_itself nat_list_cmp_total (name_at names a)) in
    ap (λ (r : Ordering). ordering_then r (nat_cmp a b)) tied

first_not_greater : (r s : Ordering) → ordering_then r s ≡ Less → (r ≡ Less → ⊥) → r ≡ Equal
first_not_greater Less s e n = absurd (n refl)
first_not_greater Equal s e n = refl
first_not_greater Greater s e n = absurd cc

-- between two numbers of one name there are numbers of that name alone
between_same : (names : List (List ℕ)) (a x b : ℕ) → name_at names a ≡ name_at names b → by_name names a x ≡ Less → by_name names x b ≡ Less → name_at names a ≡ name_at names x
between_same names a x b e f g =
    let m = name_at names a in
    let n = name_at names x in
    let back : ordering_then (slice_cmp nat_cmp n m) (nat_cmp x b) ≡ Less = subst (λ (k : List ℕ). ordering_then (slice_cmp nat_cmp n k) (nat_cmp x b) ≡ Less) (sym e) g in
    same_names m n (first_not_greater (slice_cmp nat_cmp m n) (nat_cmp a x) f (λ less. later m n (nat_cmp x b) less back))
  where
    later : (m n : List ℕ) (s : Ordering) → slice_cmp nat_cmp m n ≡ Less → ordering_then (slice_cmp nat_cmp n m) s ≡ Less → ⊥
    later m n s less back =
        let turned = nat_list_cmp_total.antisymm n m in
        let greater : slice_cmp nat_cmp n m ≡ Greater = turned ∙ ap ordering_reverse less in
        let wrong : ordering_then Greater s ≡ Less = subst (λ (r : Ordering). ordering_then r s ≡ Less) greater back in
        absurd cc

-- In a loop over the numbers in their order: the least so far that has the name of the one before it.
pub record LeastSoFar (names : List (List ℕ)) (order : List ℕ) (k least : ℕ) : Type 0 where
  pub bound : least ≤ length names
  pub below : (j : ℕ) → j + 1 < k → name_at names (get_or order j 0) ≡ name_at names (get_or order (j + 1) 0) → least ≤ get_or order (j + 1) 0
  pub repeats : least < length names → (j : ℕ) × (j < least) × (name_at names j ≡ name_at names least)

pub so_far_none : (names : List (List ℕ)) (order : List ℕ) → LeastSoFar names order 1 (length names)
so_far_none names order = record { bound = omega arith; below = λ j lt e. absurd (omega arith); repeats = λ lt. absurd (omega arith) }

-- a place where the name is that of the one before it, and one where it is another
same_lowers : (names : List (List ℕ)) (order : List ℕ) (k least : ℕ) → IsByName names order → k + 1 < length order → LeastSoFar names order (k + 1) least
    → name_at names (get_or order k 0) ≡ name_at names (get_or order (k + 1) 0) → LeastSoFar names order (suc k + 1) (min least (get_or order (k + 1) 0))
same_lowers names order k least by lt h e =
    let a = get_or order k 0 in
    let b = get_or order (k + 1) 0 in
    let within = by.within (k + 1) lt in
    let up : a < b = is_less a b (sym (by_number names a b e) ∙ by.ascends k (k + 1) (omega arith) lt) in
    record {
      bound = omega (arith, h.bound);
      below = λ j l f. elim (cases_lt (j + 1) (k + 1)) [
        | inl before ↦ let le = h.below j before f in omega arith
        | inr after ↦ let same : j ≡ k = omega arith in let le : b ≤ get_or order (j + 1) 0 = rw same (omega arith) in omega arith
      ];
      repeats = λ l. elim (cases_lt b least) [
        | inl lower ↦ let same : min least b ≡ b = omega arith in rw same (a, up, e)
        | inr above ↦ let same : min least b ≡ least = omega arith in rw same (h.repeats (omega arith))
      ];
    }

other_stays : (names : List (List ℕ)) (order : List ℕ) (k least : ℕ) → LeastSoFar names order (k + 1) least
    → bytes_eq (name_at names (get_or order k 0)) (name_at names (get_or order (k + 1) 0)) ≡ false → LeastSoFar names order (suc k + 1) least
other_stays names order k least h e = record {
  bound = h.bound;
  below = λ j l f. elim (cases_lt (j + 1) (k + 1)) [
    | inl before ↦ h.below j before f
    | inr after ↦
        let same : j ≡ k = omega arith in
        let g : name_at names (get_or order k 0) ≡ name_at names (get_or order (k + 1) 0) = subst (λ (i : ℕ). name_at names (get_or order i 0) ≡ name_at names (get_or order (i + 1) 0)) same f in
        let t = (bytes_eq-Decides (name_at names (get_or order k 0)) (name_at names (get_or order (k + 1) 0))).1 g in
        absurd cc
  ];
  repeats = h.repeats;
}

by_test : (names : List (List ℕ)) (order : List ℕ) (k least : ℕ) (b : Bool) → IsByName names order → k + 1 < length order → LeastSoFar names order (k + 1) least
    → bytes_eq (name_at names (get_or order k 0)) (name_at names (get_or order (k + 1) 0)) ≡ b → LeastSoFar names order (suc k + 1) (cond b (min least (get_or order (k + 1) 0)) least)
by_test names order k least true by lt h e = same_lowers names order k least by lt h ((bytes_eq-Decides (name_at names (get_or order k 0)) (name_at names (get_or order (k + 1) 0))).0 e)
by_test names order k least false by lt h e = other_stays names order k least h e

pub so_far_more : (names : List (List ℕ)) (order : List ℕ) (k least : ℕ) → IsByName names order → 0 < k → k < length order → LeastSoFar names order k least → LeastSoFar names order (k + 1) (lowered names order k least)
so_far_more names order zero least by pos lt h = absurd (omega arith)
so_far_more names order (suc k) least by pos lt h =
    let one : k + 1 ≡ suc k = omega arith in
    let back : suc k - 1 ≡ k = omega arith in
    rw back (subst (λ (i : ℕ). LeastSoFar names order (suc k + 1) (cond (bytes_eq (name_at names (get_or order k 0)) (name_at names (get_or order i 0))) (min least (get_or order i 0)) least)) one
    (by_test names order k least _ by (omega arith) (rw one h) refl))

-- two of one name are followed in the order by one that was passed
not_same : (names : List (List ℕ)) (order : List ℕ) (k least i j : ℕ) → IsByName names order → length order ≤ k → LeastSoFar names order k least → i < j → j < least → name_at names i ≡ name_at names j → ⊥
not_same names order k least i j by end h lt below e =
    let bound = h.bound in
    let at = by.onto i (omega arith) in
    let to = by.onto j (omega arith) in
    let p = at.0 in
    let q = to.0 in
    let less : by_name names i j ≡ Less = by_number names i j e ∙ less_than i j lt in
    let rises : p < q = rise p q at.1 to.1 at.2 to.2 less in
    passed p q rises at.1 to.1 at.2 to.2
  where
    rise : (p q : ℕ) → p < length order → q < length order → get_or order p 0 ≡ i → get_or order q 0 ≡ j → by_name names i j ≡ Less → p < q
    rise p q lp lq ep eq less = elim (cases_lt p q) [
      | inl up ↦ up
      | inr down ↦ elim (cases_lt q p) [
        | inl back ↦ absurd (not_both (by_name_total names) i j less (rw (ep, eq) at (by.ascends q p back lp)))
        | inr same ↦ let s : p ≡ q = omega arith in let t : i ≡ j = sym ep ∙ ap (λ (r : ℕ). get_or order r 0) s ∙ eq in absurd (omega arith)
      ]
    ]

    passed : (p q : ℕ) → p < q → p < length order → q < length order → get_or order p 0 ≡ i → get_or order q 0 ≡ j → ⊥
    passed p q up lp lq ep eq =
        let x = get_or order (p + 1) 0 in
        let next : by_name names i x ≡ Less = rw ep at (by.ascends p (p + 1) (omega arith) (omega arith)) in
        elim (cases_lt (p + 1) q) [
          | inl far ↦
              let then : by_name names x j ≡ Less = rw eq at (by.ascends (p + 1) q far lq) in
              let same : name_at names i ≡ name_at names x = between_same names i x j e next then in
              let lower : x < j = is_less x j (sym (by_number names x j (sym same ∙ e)) ∙ then) in
              let le : least ≤ x = h.below p (omega arith) (ap (name_at names) ep ∙ same) in
              omega arith
          | inr near ↦
              let here : p + 1 ≡ q = omega arith in
              let there : x ≡ j = ap (λ (r : ℕ). get_or order r 0) here ∙ eq in
              let le : least ≤ x = h.below p (omega arith) (ap (name_at names) ep ∙ e ∙ ap (name_at names) (sym there)) in
              omega arith
        ]

told_apart : (x y : List ℕ) (b : Bool) → bytes_eq x y ≡ b → (x ≡ y → ⊥) → b ≡ false
told_apart x y true e n = absurd (n ((bytes_eq-Decides x y).0 e))
told_apart x y false e n = refl

pub so_far_all : (names : List (List ℕ)) (order : List ℕ) (k least : ℕ) → IsByName names order → length order ≤ k → LeastSoFar names order k least → AreDifferent names least
so_far_all names order k least by end h = record {
  bound = h.bound;
  differ = λ i j lt below. told_apart (name_at names i) (name_at names j) _ refl (λ e. not_same names order k least i j by end h lt below e);
  repeats = h.repeats;
}

-- numbers in a row, put in the order of their names
pub in_order : (names : List (List ℕ)) (row order : List ℕ) → length row ≡ length names → ((k : ℕ) → k < length row → get_or row k 0 ≡ k)
    → IsPermutation row order → IsSortedBy (λ x y. is_lt (by_name names x y)) order → IsByName names order
in_order names row order long is moved sorted =
    let same_long = length_permutation row order moved in
    record {
      long = same_long ∙ long;
      within = λ p lt. All-permutation (λ n. n < length names) row order moved (λ k d l. let e = get_or_default row k d 0 l in let f = is k l in omega arith) p 0 lt;
      onto = λ k lt. found k (Contains-permutation row order k moved (k, (omega arith), get_or_default row k k 0 (omega arith) ∙ is k (omega arith)));
      ascends = λ p q lt l.
          let apart = apart_from_distinct nat_eq order p q 0 distinct lt l in
          let far = sorted_far (λ x y. is_lt (by_name names x y)) (by_name_weak names) order sorted p q 0 (omega arith) l in
          is_turned (by_name names (get_or order p 0) (get_or order q 0)) (by_name names (get_or order q 0) (get_or order p 0)) ((by_name_total names).antisymm (get_or order p 0) (get_or order q 0)) far
          (λ tied. let t : get_or order q 0 ≡ get_or order p 0 = equal_numbers names (get_or order q 0) (get_or order p 0) tied in grind (arith, nat_tests));
    }
  where
    distinct : IsDistinct nat_eq order
    distinct = IsDistinct-IsPermutation nat_eq (λ x y. grind (arith, nat_tests)) row order moved
        (IsDistinct-from_apart nat_eq row (λ i j d lt l.
        let e = get_or_default row i d 0 (omega arith) ∙ is i (omega arith) in
        let f = get_or_default row j d 0 l ∙ is j l in
        grind (arith, nat_tests)))

    found : (k : ℕ) → Contains order k → (p : ℕ) × (p < length order) × (get_or order p 0 ≡ k)
    found k at = (at.0, at.1, get_or_default order at.0 0 k at.1 ∙ at.2)
