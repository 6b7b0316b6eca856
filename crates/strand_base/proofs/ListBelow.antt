-- Serves clause slot of StrandBuffers::eligible, and the turns of sends and dispatches above.
-- Which number stands at a place of the list of those that pass.
use Rattle.std.proofs.Common.{◌≡◌, ℕ, zero, suc, ◌<◌, ◌≤◌, Bool, true, [], ◌∷◌, ◌++◌, length, refl, sym, ap, ◌∙◌, arith, inl, inr}
use Rattle.std.specs.Prelude.{slice_get, Some, None}
use Rattle.std.proofs.lemmas.Bool.{cases_Bool, cases_eq}
use Rattle.std.proofs.lemmas.Option.{slice_get_past}
use Rattle.strand_base.specs.Counting.{count_below, list_below}
use Rattle.strand_base.proofs.BelowBound.{list_length, count_strict, get_more, get_last, at_or_below}

list_yes : (n : ℕ) (f : ℕ → Bool) → f n ≡ true → list_below (suc n) f ≡ list_below n f ++ n ∷ []
list_yes n f e = rw e refl

-- a number that passes stands at the place that counts those before it
pub list_at : (n : ℕ) (f : ℕ → Bool) (k : ℕ) → k < n → f k ≡ true → slice_get (list_below n f) (count_below k f) ≡ Some k
list_at zero f k lt yes_ = absurd (omega arith)
list_at (suc n) f k lt yes_ = elim (cases_eq k n) [
  | inl same ↦
      let here : f n ≡ true = ap f (sym same) ∙ yes_ in
      ap (λ i. slice_get (list_below (suc n) f) (count_below i f)) same
      ∙ ap (λ xs. slice_get xs (count_below n f)) (list_yes n f here)
      ∙ ap (slice_get (list_below n f ++ n ∷ [])) (sym (list_length n f))
      ∙ get_last (list_below n f) n ∙ ap (λ i. Some i) (sym same)
  | inr ne ↦
      let below : k < n = at_or_below lt ne in
      let within : count_below k f < length (list_below n f) = omega (arith, count_strict k k n f (omega arith) below yes_, list_length n f) in
      elim (cases_Bool (f n)) [
        | inl here ↦ ap (λ xs. slice_get xs (count_below k f)) (list_yes n f here) ∙ get_more (list_below n f) n (count_below k f) within ∙ list_at n f k below yes_
        | inr other ↦ rw other (list_at n f k below yes_)
      ]
]

pub list_none : (n : ℕ) (f : ℕ → Bool) (i : ℕ) → count_below n f ≤ i → slice_get (list_below n f) i ≡ None
list_none n f i le = slice_get_past (list_below n f) i (omega (arith, list_length n f))
