-- Serves print_instr, by zero_count: where 'position' finds none.
use Rattle.std.proofs.Common.{◌≡◌, ℕ, Bool, not, List, length, None, position, arith}
use Rattle.std.specs.List.{position_or_len}
use Rattle.std.proofs.lemmas.List.Sums.{prefix_len-le-length}
use Rattle.strand_base.proofs.LinesAndWords.{past_place}

pub no_place : (p : ℕ → Bool) (s : List ℕ) → None ≡ position p s → length s ≡ position_or_len p s
no_place p s e = omega (arith, past_place (position_or_len p s) (length s) e, prefix_len-le-length (λ b. not (p b)) s)
