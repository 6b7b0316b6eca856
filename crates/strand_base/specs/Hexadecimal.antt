-- Numbers in sixteen hexadecimal digits.
use Rattle.std.specs.Prelude.{ℕ, ◌+◌, ◌-◌, ◌*◌, ◌/◌, ◌%◌, ◌^◌, nat_lt, List, map, Option, Some, None, if◌then◌else◌}
use Rattle.std.specs.List.{range_with_len}
use Rattle.std.specs.Option.{option_and_then}
use Rattle.std.specs.Result.{result_ok}
use Rattle.std.specs.Str.{bytes_eq}
use Rattle.strand_base.specs.Number.{hexadecimal_of}

abbrev pub hex_digit : ℕ → ℕ
hex_digit n = if nat_lt n 10 then 48 + n else 87 + n

-- sixteen hexadecimal digits, the highest first
unfoldable pub hex16 : ℕ → List ℕ
hex16 n = map (λ k. hex_digit (n / 2 ^ (60 - 4 * k) % 16)) (range_with_len 0 16)

abbrev pub if_spelled : List ℕ → ℕ → Option ℕ
if_spelled word n = if bytes_eq word (hex16 n) then Some n else None

-- the number whose sixteen lower-case digits a word is
unfoldable pub hex16_in : List ℕ → Option ℕ
hex16_in word = option_and_then (if_spelled word) (result_ok (hexadecimal_of word))
