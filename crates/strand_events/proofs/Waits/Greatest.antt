-- Serves clause greatest of waits_cover_other_strands, and each law of waits: the greatest value below a bound.
use Rattle.std.proofs.Common.{◌≡◌, ℕ, zero, suc, ◌<◌, ◌≤◌, inl, inr, refl, arith}
use Rattle.std.specs.Prelude.{max}
use Rattle.std.proofs.lemmas.Bool.{cases_eq, cases_lt}
use Rattle.strand_base.proofs.BelowBound.{at_or_below}
use Rattle.strand_events.specs.Greatest.{max_below}

pub max_at : (n : ℕ) (f : ℕ → ℕ) (k : ℕ) → k < n → f k ≤ max_below n f
max_at zero f k lt = absurd (omega arith)
max_at (suc n) f k lt = elim (cases_eq k n) [
  | inl e ↦ rw e (omega arith)
  | inr ne ↦ omega (arith, max_at n f k (at_or_below lt ne))
]

pub max_most : (n : ℕ) (f : ℕ → ℕ) (most : ℕ) → ((k : ℕ) → k < n → f k ≤ most) → max_below n f ≤ most
max_most zero f most each = omega arith
max_most (suc n) f most each = omega (arith, each n (omega arith), max_most n f most (λ k lt. each k (omega arith)))

-- what is less than the greatest value is less than one of them
pub max_found : (n : ℕ) (f : ℕ → ℕ) (c : ℕ) → c < max_below n f → (k : ℕ) × (k < n) × (c < f k)
max_found zero f c lt = absurd (omega arith)
max_found (suc n) f c lt = elim (cases_lt c (f n)) [
  | inl here ↦ (n, omega arith, here)
  | inr ge ↦
      let later : c < max_below n f = omega arith in
      let found = max_found n f c later in
      let below : found.0 < suc n = omega (arith, found.1) in
      (found.0, below, found.2)
]

pub max_agree : (n : ℕ) (f h : ℕ → ℕ) → ((k : ℕ) → k < n → f k ≡ h k) → max_below n f ≡ max_below n h
max_agree zero f h same = refl
max_agree (suc n) f h same = rw (same n (omega arith), max_agree n f h (λ k lt. same k (omega arith))) refl

-- the greatest of two values at each number
pub max_split : (n : ℕ) (f h : ℕ → ℕ) → max_below n (λ k. max (f k) (h k)) ≡ max (max_below n f) (max_below n h)
max_split zero f h = refl
max_split (suc n) f h = omega (arith, max_split n f h)
