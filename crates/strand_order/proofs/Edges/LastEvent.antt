-- Serves clause edges of Graph::edges: the last event of a kind before another.
-- The last event that passes a test, and the list of those that do.
use Rattle.std.proofs.Common.{◌≡◌, ℕ, zero, suc, ◌+◌, ◌<◌, ◌≤◌, Bool, true, false, ◌||◌, ◌&&◌, inl, inr, [], ◌∷◌, ◌++◌, refl, sym, ap, ◌∙◌, arith}
use Rattle.std.specs.Prelude.{nat_le, max, ◌==◌}
use Rattle.std.proofs.lemmas.Bool.{cases_eq, cases_lt, cases_Bool, eq-eqb, ne_eqb, both_ways, false_from_ne_true}
use Rattle.std.proofs.lemmas.Bool.Decides.{nat_tests}
use Rattle.strand_base.specs.Counting.{list_below, count_below}
use Rattle.strand_base.proofs.BelowBound.{count_flat, count_strict, at_or_below}
use Rattle.strand_order.specs.Lasts.{since_below, from_floor, cut, is_the_last}

pub le_yes : (m n : ℕ) → m ≤ n → nat_le m n ≡ true
le_yes m n le = grind (arith, nat_tests)

pub le_no : (m n : ℕ) → n < m → nat_le m n ≡ false
le_no m n lt = grind (arith, nat_tests)

pub le_true : (m n : ℕ) → nat_le m n ≡ true → m ≤ n
le_true m n h = elim (cases_lt n m) [ inl lt ↦ absurd (both_ways (nat_le m n) (le_no m n lt) h) | inr le ↦ le ]

pub since_yes : (n : ℕ) (f : ℕ → Bool) → f n ≡ true → since_below (suc n) f ≡ suc n
since_yes n f e = rw e refl

pub since_no : (n : ℕ) (f : ℕ → Bool) → f n ≡ false → since_below (suc n) f ≡ since_below n f
since_no n f e = rw e refl

pub since_most : (n : ℕ) (f : ℕ → Bool) → since_below n f ≤ n
since_most zero f = omega arith
since_most (suc n) f = elim (cases_Bool (f n)) [
  | inl e ↦ rw (since_yes n f e) (omega arith)
  | inr e ↦ rw (since_no n f e) (omega (arith, since_most n f))
]

pub since_agree : (n : ℕ) (f h : ℕ → Bool) → ((k : ℕ) → k < n → f k ≡ h k) → since_below n f ≡ since_below n h
since_agree zero f h same = refl
since_agree (suc n) f h same = rw (same n (omega arith), since_agree n f h (λ k lt. same k (omega arith)))

-- the last member passes
pub since_passes : (n : ℕ) (f : ℕ → Bool) (i : ℕ) → since_below n f ≡ suc i → f i ≡ true
since_passes zero f i e = absurd (omega (arith, e))
since_passes (suc n) f i e = elim (cases_Bool (f n)) [
  | inl y ↦ let same : n ≡ i = omega (arith, since_yes n f y, e) in ap f (sym same) ∙ y
  | inr no_ ↦ since_passes n f i (sym (since_no n f no_) ∙ e)
]

-- and none after it does
pub since_above : (n : ℕ) (f : ℕ → Bool) (k : ℕ) → k < n → f k ≡ true → k < since_below n f
since_above zero f k lt h = absurd (omega arith)
since_above (suc n) f k lt h = elim (cases_Bool (f n)) [
  | inl y ↦ rw (since_yes n f y) lt
  | inr no_ ↦ rw (since_no n f no_) (since_above n f k (at_or_below lt (λ e. both_ways (f n) no_ (ap f (sym e) ∙ h))) h)
]

-- it is the last below any bound down to it
pub since_between : (n m : ℕ) (f : ℕ → Bool) → m ≤ n → since_below n f ≤ m → since_below m f ≡ since_below n f
since_between zero m f le hi = let e : m ≡ 0 = omega arith in rw e refl
since_between (suc n) m f le hi = elim (cases_eq m (suc n)) [
  | inl e ↦ rw e refl
  | inr ne ↦ elim (cases_Bool (f n)) [
    | inl y ↦ absurd (omega (arith, since_yes n f y, hi, le, ne))
    | inr no_ ↦
        let near : m ≤ n = grind (arith, le, ne) in
        since_between n m f near (omega (arith, since_no n f no_, hi)) ∙ sym (since_no n f no_)
  ]
]

pub list_none : (n : ℕ) (f : ℕ → Bool) → since_below n f ≡ 0 → list_below n f ≡ []
list_none zero f e = refl
list_none (suc n) f e = elim (cases_Bool (f n)) [
  | inl y ↦ absurd (omega (arith, since_yes n f y, e))
  | inr no_ ↦ rw no_ (list_none n f (sym (since_no n f no_) ∙ e))
]

pub list_last : (n : ℕ) (f : ℕ → Bool) (i : ℕ) → since_below n f ≡ suc i → list_below n f ≡ list_below i f ++ i ∷ []
list_last zero f i e = absurd (omega (arith, e))
list_last (suc n) f i e = elim (cases_Bool (f n)) [
  | inl y ↦ let same : i ≡ n = omega (arith, since_yes n f y, e) in rw (same, y) refl
  | inr no_ ↦ rw no_ (list_last n f i (sym (since_no n f no_) ∙ e))
]

-- the last of a chain from its floor on
pub since_floor : (n : ℕ) (f : ℕ → Bool) (floor : ℕ) → since_below n (from_floor f floor) ≡ cut floor (since_below n f)
since_floor zero f floor = elim (cases_Bool (nat_le floor 0)) [ inl y ↦ rw y refl | inr no_ ↦ rw no_ refl ]
since_floor (suc n) f floor = elim (cases_Bool (f n)) [
  | inl y ↦ elim (cases_lt (suc n) floor) [
    | inl lt ↦
        let low : since_below n f < floor = omega (arith, since_most n f, lt) in
        let far : nat_le floor (n + 1) ≡ false = le_no floor (n + 1) (omega arith) in
        rw (y, far, since_floor n f floor, le_no floor (suc n) lt, le_no floor (since_below n f) low) refl
    | inr le ↦
        let near : nat_le floor (n + 1) ≡ true = le_yes floor (n + 1) (omega arith) in
        rw (y, near, le_yes floor (suc n) le) refl
  ]
  | inr no_ ↦ rw (no_, since_floor n f floor) refl
]

-- the one event that is the last
pub since_the_last : (n last : ℕ) → last ≤ n → since_below n (is_the_last last) ≡ last
since_the_last zero last le = omega arith
since_the_last (suc n) last le = elim (cases_eq (suc n) last) [
  | inl e ↦ rw (eq-eqb (suc n) last e) e
  | inr ne ↦ rw (ne_eqb (suc n) last ne) (since_the_last n last (grind (arith, le, ne)))
]

-- the later of two last ones
pub since_either : (n : ℕ) (f h : ℕ → Bool) → since_below n (λ i. f i || h i) ≡ max (since_below n f) (since_below n h)
since_either zero f h = refl
since_either (suc n) f h = elim (cases_Bool (f n)) [
  | inl y ↦ elim (cases_Bool (h n)) [
    | inl z ↦ rw (y, z) (omega arith)
    | inr no_ ↦ let most = since_most n h in rw (y, no_) (omega (arith, most))
  ]
  | inr none ↦ elim (cases_Bool (h n)) [
    | inl z ↦ let most = since_most n f in rw (none, z) (omega (arith, most))
    | inr no_ ↦ rw (none, no_) (since_either n f h)
  ]
]

-- a member after which none comes is the last
pub last_only : (n i : ℕ) (f : ℕ → Bool) → i < n → (f i && nat_le (since_below n f) (i + 1)) ≡ is_the_last (since_below n f) i
last_only n i f lt = elim (cases_Bool (f i)) [
  | inl y ↦
      let above = since_above n f i lt y in
      elim (cases_eq (suc i) (since_below n f)) [
        | inl e ↦ rw (y, eq-eqb (suc i) (since_below n f) e) (le_yes (since_below n f) (i + 1) (omega (arith, e)))
        | inr ne ↦ rw (y, ne_eqb (suc i) (since_below n f) ne) (le_no (since_below n f) (i + 1) (grind (arith, above, ne)))
      ]
  | inr no_ ↦ rw (no_, ne_eqb (suc i) (since_below n f) (λ e. both_ways (f i) no_ (since_passes n f i (sym e)))) refl
]

-- equally many pass below k and below n exactly where none does from k on
pub same_count : (n k : ℕ) (f : ℕ → Bool) → k < n → f k ≡ false → (count_below k f == count_below n f) ≡ nat_le (since_below n f) (k + 1)
same_count n k f lt none = elim (cases_lt (k + 1) (since_below n f)) [
  | inl far ↦ (go (since_below n f) refl far)
  | inr near ↦
      let flat : count_below n f ≡ count_below k f = count_flat k n f (omega arith) (λ m lo hi. elim (cases_eq m k) [
        | inl e ↦ ap f e ∙ none
        | inr ne ↦ let past : k < m = grind (arith, lo, ne) in false_from_ne_true (f m) (λ h. omega (arith, since_above n f m hi h, near, past))
      ]) in
      eq-eqb (count_below k f) (count_below n f) (sym flat) ∙ sym (le_yes (since_below n f) (k + 1) near)
]
  where
    go : (s : ℕ) → since_below n f ≡ s → k + 1 < since_below n f → (count_below k f == count_below n f) ≡ nat_le (since_below n f) (k + 1)
    go zero e far = absurd (omega (arith, e, far))
    go (suc i) e far =
        let more = count_strict k i n f (omega (arith, e, far)) (omega (arith, e, since_most n f)) (since_passes n f i e) in
        ne_eqb (count_below k f) (count_below n f) (λ same. omega (arith, same, more)) ∙ sym (le_no (since_below n f) (k + 1) far)
