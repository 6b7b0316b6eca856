-- Serves clauses hits, steps and counted of cache_laws: the numbers that pass a test, the newest first.
use Rattle.std.proofs.Common.{◌≡◌, ℕ, zero, suc, ◌<◌, ◌≤◌, Bool, true, false, ◌&&◌, inl, inr, List, [], ◌∷◌, take, refl, sym, ap, ◌∙◌, arith}
use Rattle.std.specs.Prelude.{not, map, reverse, nat_lt, ◌==◌, if◌then◌else◌}
use Rattle.std.specs.List.{list_any}
use Rattle.std.proofs.lemmas.Bool.{cases_Bool, cases_lt, false≢true, true≢false, le-ltb, lt-ltb, and_from, and_left, and_right}
use Rattle.std.proofs.lemmas.List.{reverse-append}
use Rattle.strand_base.specs.Counting.{count_below, list_below, any_below}
use Rattle.strand_base.proofs.BelowBound.{any_true, count_flat, count_yes, count_no}
use Rattle.strand_cache.specs.Lists.{without_line}

abbrev pub newest_below : ℕ → (ℕ → Bool) → List ℕ
newest_below zero f = []
newest_below (suc n) f = if f n then n ∷ newest_below n f else newest_below n f

pub same_tests : (a b : Bool) → (a ≡ true → b ≡ true) → (b ≡ true → a ≡ true) → a ≡ b
same_tests true true h k = refl
same_tests true false h k = absurd (false≢true (h refl))
same_tests false true h k = absurd (false≢true (k refl))
same_tests false false h k = refl

pub newest_reverse : (n : ℕ) (f : ℕ → Bool) → reverse (list_below n f) ≡ newest_below n f
newest_reverse zero f = refl
newest_reverse (suc n) f = elim (cases_Bool (f n)) [
  | inl e ↦ rw (e, reverse-append (list_below n f) (n ∷ []), newest_reverse n f) refl
  | inr e ↦ rw e (newest_reverse n f)
]

pub newest_yes : (n : ℕ) (f : ℕ → Bool) → f n ≡ true → newest_below (suc n) f ≡ n ∷ newest_below n f
newest_yes n f e = rw e refl

pub newest_no : (n : ℕ) (f : ℕ → Bool) → f n ≡ false → newest_below (suc n) f ≡ newest_below n f
newest_no n f e = rw e refl

pub newest_agree : (n : ℕ) (f h : ℕ → Bool) → ((k : ℕ) → k < n → f k ≡ h k) → newest_below n f ≡ newest_below n h
newest_agree zero f h same = refl
newest_agree (suc n) f h same = rw (same n (omega arith), newest_agree n f h (λ k lt. same k (omega arith))) refl

-- what two functions that agree below n give of the numbers
pub map_agree : (n : ℕ) (f : ℕ → Bool) (line other : ℕ → ℕ) → ((k : ℕ) → k < n → line k ≡ other k) → map line (newest_below n f) ≡ map other (newest_below n f)
map_agree zero f line other same = refl
map_agree (suc n) f line other same =
    let rest = map_agree n f line other (λ k lt. same k (omega arith)) in
    elim (cases_Bool (f n)) [
      | inl e ↦ rw (e, same n (omega arith), rest) refl
      | inr e ↦ rw e rest
    ]

pub any_none : (n : ℕ) (f : ℕ → Bool) → ((k : ℕ) → k < n → f k ≡ false) → any_below n f ≡ false
any_none n f none = elim (cases_Bool (any_below n f)) [
  | inl e ↦ let found = any_true n f e in absurd (true≢false (sym found.2 ∙ none found.0 found.1))
  | inr e ↦ e
]

pub nothing_after : (n m : ℕ) (f : ℕ → Bool) → n ≤ suc m → any_below n (λ k. nat_lt m k && f k) ≡ false
nothing_after n m f le = any_none n (λ k. nat_lt m k && f k) (λ k lt. ap (λ b. b && f k) (le-ltb m k (omega arith)))

pub none_after : (n m : ℕ) (f : ℕ → Bool) → n ≤ suc m → count_below n (λ k. nat_lt m k && f k) ≡ 0
none_after n m f le = count_flat 0 n (λ k. nat_lt m k && f k) (omega arith) (λ k from lt. ap (λ b. b && f k) (le-ltb m k (omega arith)))

-- a test that passes wherever another does counts at least as many
pub count_implied : (n : ℕ) (f h : ℕ → Bool) → ((k : ℕ) → k < n → f k ≡ true → h k ≡ true) → count_below n f ≤ count_below n h
count_implied zero f h implied = omega arith
count_implied (suc n) f h implied =
    let rest = count_implied n f h (λ k lt. implied k (omega arith)) in
    elim (cases_Bool (f n)) [
      | inl e ↦ rw (e, implied n (omega arith) e) (omega (arith, rest))
      | inr e ↦ elim (cases_Bool (h n)) [ inl y ↦ rw (e, y) (omega (arith, rest)) | inr y ↦ rw (e, y) rest ]
    ]

-- the lines of the numbers but for one line
pub without_newest : (n : ℕ) (f : ℕ → Bool) (line : ℕ → ℕ) (l : ℕ) → without_line l (map line (newest_below n f)) ≡ map line (newest_below n (λ k. f k && not (l == line k)))
without_newest zero f line l = refl
without_newest (suc n) f line l =
    let rest = without_newest n f line l in
    elim (cases_Bool (f n)) [
      | inl e ↦ elim (cases_Bool (l == line n)) [ inl y ↦ rw (e, y) rest | inr y ↦ rw (e, y, rest) refl ]
      | inr e ↦ rw e rest
    ]

-- a line is among them where a number that passes has it
pub member_newest : (n : ℕ) (f : ℕ → Bool) (line : ℕ → ℕ) (l : ℕ) → list_any (λ other. l == other) (map line (newest_below n f)) ≡ any_below n (λ k. f k && (l == line k))
member_newest zero f line l = refl
member_newest (suc n) f line l =
    let rest = member_newest n f line l in
    elim (cases_Bool (f n)) [
      | inl e ↦ rw (e, rest) refl
      | inr e ↦ rw e rest
    ]

newest_none : (n : ℕ) (f : ℕ → Bool) → ((k : ℕ) → k < n → f k ≡ false) → newest_below n f ≡ []
newest_none zero f none = refl
newest_none (suc n) f none = newest_no n f (none n (omega arith)) ∙ newest_none n f (λ k lt. none k (omega arith))

pub lt_suc : (c v : ℕ) → nat_lt (suc c) (suc v) ≡ nat_lt c v
lt_suc c v = elim (cases_lt c v) [
  | inl lt ↦ lt-ltb (suc c) (suc v) (omega arith) ∙ sym (lt-ltb c v lt)
  | inr ge ↦ le-ltb (suc c) (suc v) (omega arith) ∙ sym (le-ltb c v ge)
]

-- how many numbers below n and above k pass
abbrev pub newer : ℕ → (ℕ → Bool) → ℕ → ℕ
newer n f k = count_below n (λ m. nat_lt k m && f m)

newer_yes : (n : ℕ) (f : ℕ → Bool) (k : ℕ) → k < n → f n ≡ true → newer (suc n) f k ≡ suc (newer n f k)
newer_yes n f k lt e = count_yes n (λ m. nat_lt k m && f m) (and_from (nat_lt k n) (f n) (lt-ltb k n lt) e)

newer_no : (n : ℕ) (f : ℕ → Bool) (k : ℕ) → f n ≡ false → newer (suc n) f k ≡ newer n f k
newer_no n f k e = count_no n (λ m. nat_lt k m && f m) (and_right (nat_lt k n) (f n) e)

lt_zero : (c : ℕ) → nat_lt c 0 ≡ false
lt_zero c = le-ltb c 0 (omega arith)

-- the numbers that have fewer than w newer ones beside them are the w newest
pub newest_take : (n : ℕ) (f : ℕ → Bool) (w : ℕ) → newest_below n (λ k. f k && nat_lt (newer n f k) w) ≡ take w (newest_below n f)
newest_take zero f zero = refl
newest_take zero f (suc w) = refl
newest_take (suc n) f zero = newest_none (suc n) (λ k. f k && nat_lt (newer (suc n) f k) 0) (λ k lt. and_right (f k) (nat_lt (newer (suc n) f k) 0) (lt_zero (newer (suc n) f k)))
newest_take (suc n) f (suc w) = elim (cases_Bool (f n)) [
  | inl e ↦
      let front : f n && nat_lt (newer (suc n) f n) (suc w) ≡ true = and_from (f n) (nat_lt (newer (suc n) f n) (suc w)) e (rw (none_after (suc n) n f (omega arith)) (lt-ltb 0 (suc w) (omega arith))) in
      let rest : newest_below n (λ k. f k && nat_lt (newer (suc n) f k) (suc w)) ≡ newest_below n (λ k. f k && nat_lt (newer n f k) w) =
      newest_agree n (λ k. f k && nat_lt (newer (suc n) f k) (suc w)) (λ k. f k && nat_lt (newer n f k) w) (λ k lt. ap (λ b. f k && b) (ap (λ c. nat_lt c (suc w)) (newer_yes n f k lt e) ∙ lt_suc (newer n f k) w)) in
      newest_yes n (λ k. f k && nat_lt (newer (suc n) f k) (suc w)) front ∙ ap (λ l. n ∷ l) (rest ∙ newest_take n f w) ∙ ap (take (suc w)) (sym (newest_yes n f e))
  | inr e ↦
      let rest : newest_below n (λ k. f k && nat_lt (newer (suc n) f k) (suc w)) ≡ newest_below n (λ k. f k && nat_lt (newer n f k) (suc w)) =
      newest_agree n (λ k. f k && nat_lt (newer (suc n) f k) (suc w)) (λ k. f k && nat_lt (newer n f k) (suc w)) (λ k lt. ap (λ c. f k && nat_lt c (suc w)) (newer_no n f k e)) in
      newest_no n (λ k. f k && nat_lt (newer (suc n) f k) (suc w)) (and_left (f n) (nat_lt (newer (suc n) f n) (suc w)) e) ∙ rest ∙ newest_take n f (suc w) ∙ ap (take (suc w)) (sym (newest_no n f e))
]
