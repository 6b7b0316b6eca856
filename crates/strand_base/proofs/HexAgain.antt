-- Serves clause again of print_hex16 and of list, and whoever prints such words: printed hexadecimal digits are read again.
use Rattle.std.proofs.Common.{◌≡◌, ℕ, zero, suc, ◌+◌, ◌*◌, ◌/◌, ◌%◌, ◌^◌, ◌<◌, ◌≤◌, true, false, not, ltb, List, [], ◌∷◌, length, Some, None, Ok, refl, sym, ap, ◌∙◌, arith}
use Rattle.std.specs.Prelude.{position}
use Rattle.std.specs.List.{position_or_len, AllByRecursion}
use Rattle.std.specs.Char.{digit_value, is_ascii_hexdigit}
use Rattle.std.specs.Str.Parse.{digits_value, digits_value_after}
use Rattle.std.proofs.Math.Nat.{div-div-eq-div-mul, div-one, pow-suc}
use Rattle.std.proofs.lemmas.Nat.{div-add-mod'}
use Rattle.std.proofs.lemmas.Bool.{le-ltb, lt-ltb}
use Rattle.std.proofs.lemmas.Bool.Decides.{nat_tests}
use Rattle.std.proofs.lemmas.Slice.Eq.{bytes_eq-Decides}
use Rattle.strand_base.specs.Number.{hexadecimal_of}
use Rattle.strand_base.specs.Hexadecimal.{hex_digit, hex16, hex16_in}
use Rattle.strand_base.specs.Text.{IsPlainWord}

-- the lowest k digits
abbrev pub low_digits : ℕ → ℕ → List ℕ
low_digits n zero = []
low_digits n (suc k) = hex_digit (n / 2 ^ (4 * k) % 16) ∷ low_digits n k

pub all_sixteen : (n : ℕ) → hex16 n ≡ low_digits n 16
unfolding hex16
all_sixteen n = refl

value_again : (d : ℕ) → d < 16 → digit_value (hex_digit d) ≡ d
value_again d lt = grind (arith, nat_tests)

is_digit_again : (d : ℕ) → d < 16 → is_ascii_hexdigit (hex_digit d) ≡ true
is_digit_again d lt = grind (arith, nat_tests)

one_digit : (n p : ℕ) → n / (p * 16) * 16 + digit_value (hex_digit (n / p % 16)) ≡ n / p
one_digit n p =
    let low : n / p % 16 < 16 = omega arith in
    rw (value_again (n / p % 16) low, ← div-div-eq-div-mul n p 16) (div-add-mod' (n / p) 16)

-- four more bits
pub next_power : (k : ℕ) → 2 ^ (4 * suc k) ≡ 2 ^ (4 * k) * 16
next_power k =
    let four : 4 * suc k ≡ suc (suc (suc (suc (4 * k)))) = omega arith in
    let m = 4 * k in
    ap (λ (j : ℕ). 2 ^ j) four ∙ omega (arith, pow-suc 2 (suc (suc (suc m))), pow-suc 2 (suc (suc m)), pow-suc 2 (suc m), pow-suc 2 m)

low_value : (n k : ℕ) → digits_value_after 16 (n / 2 ^ (4 * k)) (low_digits n k) ≡ n
low_value n zero = div-one n
low_value n (suc k) =
    rw (next_power k) (ap (λ (v : ℕ). digits_value_after 16 v (low_digits n k)) (one_digit n (2 ^ (4 * k))) ∙ low_value n k)

all_digits : (n k : ℕ) → position_or_len (λ c. not (is_ascii_hexdigit c)) (low_digits n k) ≡ length (low_digits n k)
all_digits n zero = refl
all_digits n (suc k) =
    let low : n / 2 ^ (4 * k) % 16 < 16 = omega arith in
    let rest : 1 + position_or_len (λ c. not (is_ascii_hexdigit c)) (low_digits n k) ≡ suc (length (low_digits n k)) = omega (arith, all_digits n k) in
    rw (is_digit_again (n / 2 ^ (4 * k) % 16) low) rest

none_bad : (ds : List ℕ) → position_or_len (λ c. not (is_ascii_hexdigit c)) ds ≡ length ds → position (λ c. not (is_ascii_hexdigit c)) ds ≡ None
none_bad ds e =
    let past : ltb (position_or_len (λ c. not (is_ascii_hexdigit c)) ds) (length ds) ≡ false = le-ltb _ _ (omega (arith, e)) in
    rw past refl

read_again : (ds : List ℕ) (n : ℕ) → 0 < length ds → position (λ c. not (is_ascii_hexdigit c)) ds ≡ None → digits_value 16 ds ≡ n → n < 2 ^ 64 → hexadecimal_of ds ≡ Ok n
unfolding hexadecimal_of
read_again [] n lt all e fits = absurd (omega arith)
read_again (c ∷ cs) n lt all e fits =
    let small : ltb (digits_value 16 (c ∷ cs)) (2 ^ 64) ≡ true = lt-ltb _ _ (omega arith) in
    rw (all, small) (ap (λ (m : ℕ). Ok m) e)

-- all digits of a number are read again
pub low_again : (n k : ℕ) → n < 2 ^ 64 → n / 2 ^ (4 * suc k) ≡ 0 → hexadecimal_of (low_digits n (suc k)) ≡ Ok n
low_again n k fits high =
    read_again (low_digits n (suc k)) n (omega arith) (none_bad (low_digits n (suc k)) (all_digits n (suc k)))
    (ap (λ (v : ℕ). digits_value_after 16 v (low_digits n (suc k))) (sym high) ∙ low_value n (suc k)) fits

pub hex_again : (n : ℕ) → n < 2 ^ 64 → hexadecimal_of (hex16 n) ≡ Ok n
hex_again n fits = rw (all_sixteen n) (low_again n 15 fits (omega arith))

-- a word of sixteen printed digits is read again
pub hex16_again : (n : ℕ) → n < 2 ^ 64 → hex16_in (hex16 n) ≡ Some n
unfolding hex16_in
hex16_again n fits = rw (hex_again n fits, (bytes_eq-Decides (hex16 n) (hex16 n)).1 refl) refl

digit_plain : (d : ℕ) → d < 16 → 36 ≤ hex_digit d
digit_plain d lt = grind (arith, nat_tests)

digits_plain : (n k : ℕ) → AllByRecursion (λ b. 36 ≤ b) (low_digits n k)
digits_plain n zero = tt
digits_plain n (suc k) = (digit_plain (n / 2 ^ (4 * k) % 16) (omega arith), digits_plain n k)

pub hex16_plain : (n : ℕ) → IsPlainWord (hex16 n)
hex16_plain n = rw (all_sixteen n) (digit_plain (n / 2 ^ 60 % 16) (omega arith), digits_plain n 15)
