-- The greatest of some values.
use Rattle.std.specs.Prelude.{ℕ, zero, suc, max}

-- the greatest of 0 and the values at the numbers below n
abbrev pub max_below : ℕ → (ℕ → ℕ) → ℕ
max_below zero f = 0
max_below (suc n) f = max (f n) (max_below n f)
