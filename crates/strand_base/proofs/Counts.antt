-- Serves put_all, and ModuleBank::fill, read_all and replace: counts of calls add up.
use Rattle.std.proofs.Common.{◌≡◌, ℕ, ◌+◌, arith}
use Rattle.strand_base.specs.Counts.{counted}

-- some more and then others
pub counted_again : (a b n : ℕ) → counted b (counted a n) ≡ counted (a + b) n
counted_again a b n = omega arith

pub counted_none : (n : ℕ) → counted 0 n ≡ n
counted_none n = omega arith
