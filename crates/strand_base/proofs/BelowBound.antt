-- Serves the clauses of all crates above that count, list or test the numbers below a bound.
use Rattle.std.proofs.Common.{◌≡◌, ℕ, zero, suc, ◌<◌, ◌≤◌, Bool, true, false, inl, inr, List, [], ◌∷◌, ◌++◌, length, Some, refl, sym, ap, ◌∙◌, arith, length-append}
use Rattle.std.specs.Prelude.{slice_get}
use Rattle.std.proofs.lemmas.Bool.{or_parts, or_cases, cases_eq, cases_Bool, cases_order, true≢false, false≢true}
use Rattle.std.proofs.lemmas.Option.{slice_get_within, none-some, same_Some}
use Rattle.strand_base.specs.Counting.{count_below, list_below, any_below}

pub at_or_below : {k n : ℕ} → k < suc n → (k ≡ n → ⊥) → k < n
at_or_below lt ne = grind arith

pub any_false : (n : ℕ) (f : ℕ → Bool) → any_below n f ≡ false → (k : ℕ) → k < n → f k ≡ false
any_false zero f e k lt = absurd (omega arith)
any_false (suc n) f e k lt =
    let parts = or_parts (f n) (any_below n f) e in
    elim (cases_eq k n) [ inl same ↦ ap f same ∙ parts.0 | inr ne ↦ any_false n f parts.1 k (at_or_below lt ne) ]

pub any_true : (n : ℕ) (f : ℕ → Bool) → any_below n f ≡ true → (k : ℕ) × (k < n) × (f k ≡ true)
any_true zero f e = absurd (false≢true e)
any_true (suc n) f e =
    elim (or_cases (f n) (any_below n f) e) [
      | inl here ↦ (n, omega arith, here)
      | inr later ↦ let found = any_true n f later in let lt : found.0 < suc n = omega (arith, found.1) in (found.0, lt, found.2)
    ]

pub any_from : (n : ℕ) (f : ℕ → Bool) (k : ℕ) → k < n → f k ≡ true → any_below n f ≡ true
any_from n f k lt e = elim (cases_Bool (any_below n f)) [ inl yes_ ↦ yes_ | inr no_ ↦ absurd (true≢false (sym e ∙ any_false n f no_ k lt)) ]

pub any_agree : (n : ℕ) (f h : ℕ → Bool) → ((k : ℕ) → k < n → f k ≡ h k) → any_below n f ≡ any_below n h
any_agree zero f h same = refl
any_agree (suc n) f h same = rw (same n (omega arith), any_agree n f h (λ k lt. same k (omega arith)))

pub count_agree : (n : ℕ) (f h : ℕ → Bool) → ((k : ℕ) → k < n → f k ≡ h k) → count_below n f ≡ count_below n h
count_agree zero f h same = refl
count_agree (suc n) f h same = rw (same n (omega arith), count_agree n f h (λ k lt. same k (omega arith)))

pub list_agree : (n : ℕ) (f h : ℕ → Bool) → ((k : ℕ) → k < n → f k ≡ h k) → list_below n f ≡ list_below n h
list_agree zero f h same = refl
list_agree (suc n) f h same = rw (same n (omega arith), list_agree n f h (λ k lt. same k (omega arith)))

-- one more number counts where it passes
pub count_yes : (n : ℕ) (f : ℕ → Bool) → f n ≡ true → count_below (suc n) f ≡ suc (count_below n f)
count_yes n f e = rw e refl

pub count_no : (n : ℕ) (f : ℕ → Bool) → f n ≡ false → count_below (suc n) f ≡ count_below n f
count_no n f e = rw e refl

count_step : (n : ℕ) (f : ℕ → Bool) → count_below n f ≤ count_below (suc n) f
count_step n f = elim (cases_Bool (f n)) [ inl e ↦ omega (arith, count_yes n f e) | inr e ↦ omega (arith, count_no n f e) ]

pub count_mono : (i j : ℕ) (f : ℕ → Bool) → i ≤ j → count_below i f ≤ count_below j f
count_mono i zero f le = let e : i ≡ 0 = omega arith in rw e (omega arith)
count_mono i (suc j) f le =
    elim (cases_eq i (suc j)) [
      | inl e ↦ rw e (omega arith)
      | inr ne ↦ let below : i ≤ j = grind arith in omega (arith, count_mono i j f below, count_step j f)
    ]

pub count_strict : (i k j : ℕ) (f : ℕ → Bool) → i ≤ k → k < j → f k ≡ true → count_below i f < count_below j f
count_strict i k j f le lt e = omega (arith, count_mono i k f le, count_yes k f e, count_mono (suc k) j f lt)

pub count_flat : (i j : ℕ) (f : ℕ → Bool) → i ≤ j → ((k : ℕ) → i ≤ k → k < j → f k ≡ false) → count_below j f ≡ count_below i f
count_flat i zero f le none = let e : i ≡ 0 = omega arith in rw e refl
count_flat i (suc j) f le none =
    elim (cases_eq i (suc j)) [
      | inl e ↦ rw e refl
      | inr ne ↦ let below : i ≤ j = grind arith in count_no j f (none j below (omega arith)) ∙ count_flat i j f below (λ k a b. none k a (omega arith))
    ]

list_yes : (n : ℕ) (f : ℕ → Bool) → f n ≡ true → list_below (suc n) f ≡ list_below n f ++ n ∷ []
list_yes n f e = rw e refl

list_no : (n : ℕ) (f : ℕ → Bool) → f n ≡ false → list_below (suc n) f ≡ list_below n f
list_no n f e = rw e refl

pub list_length : (n : ℕ) (f : ℕ → Bool) → length (list_below n f) ≡ count_below n f
list_length zero f = refl
list_length (suc n) f = elim (cases_Bool (f n)) [
  | inl e ↦ rw (list_yes n f e, count_yes n f e, length-append, list_length n f) (omega arith)
  | inr e ↦ rw (list_no n f e, count_no n f e) (list_length n f)
]

-- an element of a list with one more at its end
pub get_more : {X : Type 0} (xs : List X) (y : X) (i : ℕ) → i < length xs → slice_get (xs ++ y ∷ []) i ≡ slice_get xs i
get_more [] y i lt = absurd (omega arith)
get_more (x ∷ xs) y zero lt = refl
get_more (x ∷ xs) y (suc i) lt = get_more xs y i (omega arith)

pub get_last : {X : Type 0} (xs : List X) (y : X) → slice_get (xs ++ y ∷ []) (length xs) ≡ Some y
get_last [] y = refl
get_last (x ∷ xs) y = get_last xs y

-- the element at place i of the list is the number that passes and has i before it that do
pub list_get : (n : ℕ) (f : ℕ → Bool) (i k : ℕ) → slice_get (list_below n f) i ≡ Some k → (k < n) × (f k ≡ true) × (count_below k f ≡ i)
list_get zero f i k e = absurd (none-some k e)
list_get (suc n) f i k e = elim (cases_Bool (f n)) [
  | inl yes_ ↦ elim (cases_order i (length (list_below n f))) [
    | inl same ↦
        let at : slice_get (list_below n f ++ n ∷ []) i ≡ Some k = rw (← list_yes n f yes_) e in
        let is : Some n ≡ Some k = sym (get_last (list_below n f) n) ∙ ap (λ j. slice_get (list_below n f ++ n ∷ []) j) (sym same) ∙ at in
        let eq : n ≡ k = same_Some n k is in
        (omega (arith, eq), ap f (sym eq) ∙ yes_, ap (λ j. count_below j f) (sym eq) ∙ sym (list_length n f) ∙ sym same)
    | inr others ↦ elim others [
      | inl lt ↦
          let at : slice_get (list_below n f ++ n ∷ []) i ≡ Some k = rw (← list_yes n f yes_) e in
          let r = list_get n f i k (sym (get_more (list_below n f) n i lt) ∙ at) in
          let below : k < suc n = omega (arith, r.0) in
          (below, r.1, r.2)
      | inr gt ↦
          let at : slice_get (list_below n f ++ n ∷ []) i ≡ Some k = rw (← list_yes n f yes_) e in
          let within : i < length (list_below n f ++ n ∷ []) = slice_get_within (list_below n f ++ n ∷ []) i k at in
          absurd (omega (arith, within, gt, length-append (list_below n f) (n ∷ [])))
    ]
  ]
  | inr no_ ↦
      let r = list_get n f i k (rw (← list_no n f no_) e) in
      let below : k < suc n = omega (arith, r.0) in
      (below, r.1, r.2)
]
