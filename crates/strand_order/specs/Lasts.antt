-- The last event of some kind, as one more than its number, or 0 where there is none. A chain of events is a test of their numbers.
use Rattle.std.specs.Prelude.{ℕ, zero, suc, ◌+◌, Bool, ◌&&◌, ◌||◌, ◌==◌, nat_le, if◌then◌else◌}

-- the last event below n that passes the test
abbrev pub since_below : ℕ → (ℕ → Bool) → ℕ
since_below zero test = 0
since_below (suc n) test = if test n then suc n else since_below n test

-- the chain from its floor on
abbrev pub from_floor : (ℕ → Bool) → ℕ → ℕ → Bool
from_floor test floor i = test i && nat_le floor (i + 1)

-- a last event below the floor is none
abbrev pub cut : ℕ → ℕ → ℕ
cut floor last = if nat_le floor last then last else 0

-- the one event that is the last
abbrev pub is_the_last : ℕ → ℕ → Bool
is_the_last last i = suc i == last

-- of the chain, or the one event more
abbrev pub is_either : (ℕ → Bool) → ℕ → ℕ → Bool
is_either chain single i = chain i || is_the_last single i
