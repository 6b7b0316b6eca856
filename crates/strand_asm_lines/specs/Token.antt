-- What one word says: a name, a register, a number, or a place in memory.
use Rattle.std.specs.Prelude.{ℕ, ◌+◌, ◌-◌, ◌*◌, ◌^◌, ℤ, pos, neg_ℤ, Bool, ◌||◌, ◌&&◌, ◌==◌, nat_lt, nat_le, if◌then◌else◌, List, [], ◌∷◌, length, drop, Option, Some, None, slice_index}
use Rattle.std.specs.Option.{option_map, option_and_then}
use Rattle.std.specs.Result.{result_ok}
use Rattle.std.specs.Char.{is_ascii_digit}
use Rattle.std.specs.Str.{bytes_eq}
use lib.Chars.{codes}
use Rattle.strand_base.specs.Name.{is_name}
use Rattle.strand_base.specs.Number.{decimal_of, hexadecimal_of}
use Rattle.strand_asm_lines.specs.Bytes.{pieces}

infixl 10 ◌>>=◌
abbrev pub ◌>>=◌ : {A B : Type 0} → Option A → (A → Option B) → Option B
o >>= f = option_and_then f o

-- a word that is a name
abbrev pub name_of : List ℕ → Option (List ℕ)
name_of w = if is_name w then Some w else None

-- a number of one digit, or of two and the first not 0
abbrev pub digit_of : ℕ → Option ℕ
digit_of b = if is_ascii_digit b then Some (b - 48) else None

unfoldable pub two_digits : ℕ → ℕ → Option ℕ
two_digits b c = do
  tens ← digit_of b
  units ← digit_of c
  if tens == 0 then None else Some (10 * tens + units)

abbrev pub short_number : List ℕ → Option ℕ
short_number w = if length w == 1 then digit_of (slice_index w 0) else (if length w == 2 then two_digits (slice_index w 0) (slice_index w 1) else None)

-- the registers x0 to x31, a0 to a7 (x10 to x17), s0, s1 (x8, x9), s2 to s11 (x18 to x27), t0 to t2 (x5 to x7), t3 to t6 (x28 to x31)
abbrev pub register_by_letter : ℕ → ℕ → Option ℕ
register_by_letter letter n = if letter == 120 then (if nat_lt n 32 then Some n else None)
    else (if letter == 97 then (if nat_lt n 8 then Some (10 + n) else None)
    else (if letter == 115 then (if nat_lt n 2 then Some (8 + n) else (if nat_lt n 12 then Some (16 + n) else None))
    else (if letter == 116 then (if nat_lt n 3 then Some (5 + n) else (if nat_lt n 7 then Some (25 + n) else None)) else None)))

-- the registers with names of their own
abbrev pub named : List ℕ → Option ℕ
named w = if bytes_eq w (codes "zero") then Some 0 else (if bytes_eq w (codes "ra") then Some 1 else (if bytes_eq w (codes "sp") then Some 2
    else (if bytes_eq w (codes "gp") then Some 3 else (if bytes_eq w (codes "tp") then Some 4 else (if bytes_eq w (codes "fp") then Some 8 else None)))))

unfoldable pub numbered_register : List ℕ → Option ℕ
numbered_register w = do
  n ← short_number (drop 1 w)
  register_by_letter (slice_index w 0) n

abbrev pub unless_named : Option ℕ → List ℕ → Option ℕ
unless_named (Some n) w = Some n
unless_named None w = numbered_register w

unfoldable pub register_of : List ℕ → Option ℕ
register_of w = unless_named (named w) w

-- A number is decimal digits, behind '-' or not, or hexadecimal digits behind '0x', from -2^63 to 2^64 - 1.
unfoldable pub negative_of : List ℕ → Option ℤ
negative_of digits = do
  n ← result_ok (decimal_of digits)
  if nat_le n (2 ^ 63) then Some (neg_ℤ (pos n)) else None

abbrev pub is_hexadecimal : List ℕ → Bool
is_hexadecimal w = nat_le 2 (length w) && (slice_index w 0 == 48) && (slice_index w 1 == 120)

abbrev pub is_negative : List ℕ → Bool
is_negative w = nat_le 1 (length w) && (slice_index w 0 == 45)

unfoldable pub number_of : List ℕ → Option ℤ
number_of w = if is_hexadecimal w then option_map (λ n. pos n) (result_ok (hexadecimal_of (drop 2 w)))
    else (if is_negative w then negative_of (drop 1 w) else option_map (λ n. pos n) (result_ok (decimal_of w)))

-- A place in memory is NUMBER(REGISTER) or (REGISTER): what stands before the one '(', and between it and the one ')' at the end.
abbrev pub opened : List (List ℕ) → Option (List ℕ × List ℕ)
opened (offset ∷ base ∷ []) = Some (offset, base)
opened ps = None

abbrev pub closed : List (List ℕ) → Option (List ℕ × List ℕ)
closed (before ∷ [] ∷ []) = opened (pieces 40 before)
closed ps = None

abbrev pub bracketed : List ℕ → Option (List ℕ × List ℕ)
bracketed w = closed (pieces 41 w)

abbrev pub offset_of : List ℕ → Option ℤ
offset_of [] = Some (pos 0)
offset_of (b ∷ bs) = number_of (b ∷ bs)
