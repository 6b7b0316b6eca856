use Rattle.std.proofs.Common.{◌≡◌, ℕ, ◌-◌, ◌*◌, ◌/◌, ◌%◌, ◌^◌, ◌<◌, length, get_or}
use Rattle.strand_base.specs.Hexadecimal.{hex_digit}
use Rattle.strand_base.proofs.hexadecimal.hex_digits.Given as goal

abbrev pub invariant-loop-k : goal.invariant-loop-k
invariant-loop-k l =
    (length l.digits ≡ 16) × ((j : ℕ) → j < l.k → get_or l.digits j 0 ≡ hex_digit (l.n / 2 ^ (60 - 4 * j) % 16))
