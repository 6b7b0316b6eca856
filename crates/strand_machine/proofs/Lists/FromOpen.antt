-- Serves clauses step and parts of Machine::step: a list from its first element on that isn't done.
use Rattle.std.proofs.Common.{◌≡◌, ℕ, zero, suc, ◌<◌, Bool, true, false, ◌&&◌, ◌||◌, inl, inr, List, [], ◌∷◌, ◌++◌, length, map, refl, sym, ap, ◌∙◌, arith}
use Rattle.std.specs.Prelude.{not, if◌then◌else◌, ◌==◌, slice_get, slice_index, Some}
use Rattle.std.proofs.lemmas.Bool.{cases_Bool, and_from, or_right, ne_eqb, true≢false, false_from_ne_true}
use Rattle.std.proofs.lemmas.List.{map-append, length-append, get_or_append_left, get_or_push}
use Rattle.std.proofs.lemmas.Option.{slice_get_within}
use Rattle.strand_base.specs.Counting.{list_below, any_below}
use Rattle.strand_base.proofs.BelowBound.{get_last, get_more}
use Rattle.strand_buffer.specs.Entries.{from_open}

-- some element isn't done
abbrev pub some_open : {X : Type 0} → (X → Bool) → List X → Bool
some_open done [] = false
some_open done (x ∷ xs) = not (done x) || some_open done xs

pub open_push : {X : Type 0} (done : X → Bool) (xs : List X) (y : X) → from_open done (xs ++ y ∷ []) ≡ (if some_open done xs then from_open done xs ++ y ∷ [] else from_open done (y ∷ []))
open_push done [] y = refl
open_push done (x ∷ xs) y = elim (cases_Bool (done x)) [ inl yes_ ↦ rw yes_ (open_push done xs y) | inr no_ ↦ rw no_ refl ]

pub some_push : {X : Type 0} (done : X → Bool) (xs : List X) (y : X) → some_open done (xs ++ y ∷ []) ≡ not (done y) || some_open done xs
some_push done [] y = refl
some_push done (x ∷ xs) y = elim (cases_Bool (done x)) [
  | inl yes_ ↦ rw yes_ (some_push done xs y)
  | inr no_ ↦ rw no_ (elim (cases_Bool (done y)) [ inl yes_ ↦ rw yes_ refl | inr no_ ↦ rw no_ refl ])
]

pub open_none : {X : Type 0} (done : X → Bool) (xs : List X) → some_open done xs ≡ false → from_open done xs ≡ []
open_none done [] e = refl
open_none done (x ∷ xs) e = elim (cases_Bool (done x)) [ inl yes_ ↦ rw yes_ (let rest : some_open done xs ≡ false = rw yes_ at e in open_none done xs rest) | inr no_ ↦ absurd (let h : true ≡ false = rw no_ at e in true≢false h) ]

-- an element that isn't done stands at the end
pub open_more : {X : Type 0} (done : X → Bool) (xs : List X) (y : X) → done y ≡ false → from_open done (xs ++ y ∷ []) ≡ from_open done xs ++ y ∷ []
open_more done xs y no_ = open_push done xs y ∙ (elim (cases_Bool (some_open done xs)) [ inl some ↦ rw some refl | inr none ↦ rw (none, no_, open_none done xs none) refl ])

-- no element is left exactly where all are done
pub open_empty : {X : Type 0} (done : X → Bool) (xs : List X) → (length (from_open done xs) == 0) ≡ not (some_open done xs)
open_empty done [] = refl
open_empty done (x ∷ xs) = elim (cases_Bool (done x)) [ inl yes_ ↦ rw yes_ (open_empty done xs) | inr no_ ↦ rw no_ (ne_eqb (suc (length xs)) 0 (λ e. omega (arith, e))) ]

-- more that is done drops more
pub open_again : {X : Type 0} (done more : X → Bool) (xs : List X) → ((x : X) → done x ≡ true → more x ≡ true) → from_open more (from_open done xs) ≡ from_open more xs
open_again done more [] so = refl
open_again done more (x ∷ xs) so = elim (cases_Bool (done x)) [ inl yes_ ↦ rw (yes_, so x yes_) (open_again done more xs so) | inr no_ ↦ rw no_ refl ]

pub open_map : {X Y : Type 0} (f : X → Y) (done : Y → Bool) (xs : List X) → from_open done (map f xs) ≡ map f (from_open (λ x. done (f x)) xs)
open_map f done [] = refl
open_map f done (x ∷ xs) = elim (cases_Bool (done (f x))) [ inl yes_ ↦ rw yes_ (open_map f done xs) | inr no_ ↦ rw no_ refl ]

-- number p is a member with one at or before it that isn't done
abbrev pub is_used : (ℕ → Bool) → (ℕ → Bool) → ℕ → Bool
is_used ring done p = ring p && any_below (suc p) (λ q. ring q && not (done q))

module _ (ring done : ℕ → Bool) where
  pub some_below : (n : ℕ) → some_open done (list_below n ring) ≡ any_below n (λ q. ring q && not (done q))
  some_below zero = refl
  some_below (suc n) = elim (cases_Bool (ring n)) [
    | inl yes_ ↦ rw yes_ (some_push done (list_below n ring) n ∙ ap (λ b. not (done n) || b) (some_below n))
    | inr no_ ↦ rw no_ (some_below n)
  ]

  -- the members from the first one on that isn't done are those with one at or before them that isn't
  pub open_below : (n : ℕ) → from_open done (list_below n ring) ≡ list_below n (is_used ring done)
  open_below zero = refl
  open_below (suc n) = elim (cases_Bool (ring n)) [
    | inr no_ ↦ rw no_ (open_below n)
    | inl yes_ ↦
        let test : ℕ → Bool = λ q. ring q && not (done q) in
        let left : from_open done (list_below (suc n) ring) ≡ (if any_below n test then from_open done (list_below n ring) ++ n ∷ [] else from_open done (n ∷ [])) =
        rw yes_ (open_push done (list_below n ring) n ∙ ap (λ b. if b then from_open done (list_below n ring) ++ n ∷ [] else from_open done (n ∷ [])) (some_below n)) in
        left ∙ (elim (cases_Bool (any_below n test)) [
          | inl some ↦
              let used : is_used ring done n ≡ true = and_from (ring n) (any_below (suc n) test) yes_ (or_right (test n) (any_below n test) some) in
              rw (used, some, open_below n) refl
          | inr none ↦
              let empty : list_below n (is_used ring done) ≡ [] = sym (open_below n) ∙ open_none done (list_below n ring) (some_below n ∙ none) in
              elim (cases_Bool (done n)) [
                | inl d ↦ let unused : is_used ring done n ≡ false = rw (yes_, d, none) refl in rw (unused, none, d, empty) refl
                | inr d ↦ let used : is_used ring done n ≡ true = rw (yes_, d) refl in rw (used, none, d, empty) refl
              ]
        ])
  ]

-- lists below a bound, mapped by functions that agree there
pub map_below : {X : Type 0} (f h : ℕ → X) (n : ℕ) (test : ℕ → Bool) → ((k : ℕ) → k < n → test k ≡ true → f k ≡ h k) → map f (list_below n test) ≡ map h (list_below n test)
map_below f h zero test same = refl
map_below f h (suc n) test same = elim (cases_Bool (test n)) [
  | inl yes_ ↦ rw yes_ (map-append f (list_below n test) (n ∷ []) ∙ cc (same n (omega arith) yes_, map_below f h n test (λ k lt. same k (omega arith))) ∙ sym (map-append h (list_below n test) (n ∷ [])))
  | inr no_ ↦ rw no_ (map_below f h n test (λ k lt. same k (omega arith)))
]

-- A list below a bound that holds those that pass both tests, by the places in the list of those that pass the one.
pub list_within : (n : ℕ) (outer inner at : ℕ → Bool) → ((p : ℕ) → p < n → inner p ≡ true → outer p ≡ true) → ((i p : ℕ) → slice_get (list_below n outer) i ≡ Some p → at i ≡ inner p)
    → list_below n inner ≡ map (slice_index (list_below n outer)) (list_below (length (list_below n outer)) at)
list_within zero outer inner at so same = refl
list_within (suc n) outer inner at so same = elim (cases_Bool (outer n)) [
  | inr no_ ↦
      let none : inner n ≡ false = false_from_ne_true (inner n) (λ yes_. true≢false (sym (so n (omega arith) yes_) ∙ no_)) in
      let old = list_within n outer inner at (λ p lt. so p (omega arith)) (λ i p e. same i p (rw no_ e)) in
      rw (no_, none) old
  | inl yes_ ↦
      let xs = list_below n outer in
      let end : length (xs ++ n ∷ []) ≡ suc (length xs) = omega (arith, length-append xs (n ∷ [])) in
      let last : at (length xs) ≡ inner n = same (length xs) n (rw yes_ (get_last xs n)) in
      let old : list_below n inner ≡ map (slice_index xs) (list_below (length xs) at) = list_within n outer inner at (λ p lt. so p (omega arith)) (λ i p e. same i p (rw yes_ (get_more xs n i (slice_get_within xs i p e) ∙ e))) in
      let front : map (slice_index (xs ++ n ∷ [])) (list_below (length xs) at) ≡ map (slice_index xs) (list_below (length xs) at) = map_below (slice_index (xs ++ n ∷ [])) (slice_index xs) (length xs) at (λ k lt _. get_or_append_left xs (n ∷ []) 0 k lt) in
      let here : slice_index (xs ++ n ∷ []) (length xs) ≡ n = get_or_push xs n 0 (length xs) refl in
      rw (yes_, end, last) (elim (cases_Bool (inner n)) [
        | inl in_ ↦ rw in_ (cc (old, front, here, map-append (slice_index (xs ++ n ∷ [])) (list_below (length xs) at) (length xs ∷ [])))
        | inr out ↦ rw out (old ∙ sym front)
      ])
]
