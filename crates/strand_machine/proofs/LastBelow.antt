-- Serves clause parts of Machine::step: the last number below a bound that passes.
use Rattle.std.proofs.Common.{◌≡◌, ℕ, zero, suc, ◌+◌, ◌<◌, Bool, true, false, inl, inr, refl, sym, ap, ◌∙◌, arith}
use Rattle.std.specs.Prelude.{Some, None}
use Rattle.std.proofs.lemmas.Bool.{cases_Bool, cases_eq}
use Rattle.std.proofs.lemmas.Option.{none-some, same_Some}
use Rattle.strand_base.specs.Counting.{count_below}
use Rattle.strand_base.proofs.BelowBound.{at_or_below, count_agree}
use Rattle.strand_machine.specs.Stand.{last_below}

pub last_agree : (n : ℕ) (f h : ℕ → Bool) → ((k : ℕ) → k < n → f k ≡ h k) → last_below n f ≡ last_below n h
last_agree zero f h same = refl
last_agree (suc n) f h same = rw (same n (omega arith), last_agree n f h (λ k lt. same k (omega arith))) refl

-- one that passes, and none after it
pub last_is : (n k : ℕ) (f : ℕ → Bool) → k < n → f k ≡ true → ((p : ℕ) → k < p → f p ≡ false) → last_below n f ≡ Some k
last_is zero k f lt yes_ none = absurd (omega arith)
last_is (suc n) k f lt yes_ none = elim (cases_eq n k) [
  | inl e ↦ let here : f n ≡ true = ap f e ∙ yes_ in rw here (ap (λ i. Some i) e)
  | inr ne ↦ let below : k < n = at_or_below lt (λ e. ne (sym e)) in rw (none n below) (last_is n k f below yes_ none)
]

pub last_none : (n : ℕ) (f : ℕ → Bool) → ((p : ℕ) → f p ≡ false) → last_below n f ≡ None
last_none zero f none = refl
last_none (suc n) f none = rw (none n) (last_none n f none)

-- what the last one is known to be
pub last_found : (n k : ℕ) (f : ℕ → Bool) → last_below n f ≡ Some k → (k < n) × (f k ≡ true)
last_found zero k f e = absurd (none-some k e)
last_found (suc n) k f e = elim (cases_Bool (f n)) [
  | inl yes_ ↦ let same : n ≡ k = same_Some n k (let h : Some n ≡ Some k = rw yes_ at e in h) in (omega (arith, same), ap f (sym same) ∙ yes_)
  | inr no_ ↦ let old : last_below n f ≡ Some k = rw no_ at e in let r = last_found n k f old in (omega (arith, r.0), r.1)
]

-- one number more that passes counts once
pub count_one : (n k : ℕ) (old new : ℕ → Bool) → k < n → old k ≡ false → new k ≡ true → ((p : ℕ) → (p ≡ k → ⊥) → new p ≡ old p) → count_below n new ≡ count_below n old + 1
count_one zero k old new lt no_ yes_ same = absurd (omega arith)
count_one (suc n) k old new lt no_ yes_ same = elim (cases_eq n k) [
  | inl e ↦
      let here : new n ≡ true = ap new e ∙ yes_ in
      let none : old n ≡ false = ap old e ∙ no_ in
      let rest = count_agree n new old (λ p below. same p (λ e'. omega (arith, e, e'))) in
      rw (here, none, rest) (omega arith)
  | inr ne ↦
      let rest = count_one n k old new (at_or_below lt (λ e. ne (sym e))) no_ yes_ same in
      elim (cases_Bool (old n)) [
        | inl o ↦ let o' : new n ≡ true = same n ne ∙ o in rw (o, o', rest) (omega arith)
        | inr o ↦ let o' : new n ≡ false = same n ne ∙ o in rw (o, o') rest
      ]
]
