-- Serves clause again of list: printed numbers, registers and places in memory are read again.
use Rattle.std.proofs.Common.{◌≡◌, ℕ, zero, suc, ◌+◌, ◌-◌, ◌*◌, ◌/◌, ◌%◌, ◌^◌, ◌<◌, ◌≤◌, Bool, true, false, cond, eqb, not, List, [], ◌∷◌, length, get_or, drop, Option, Some, None, Ok, refl, sym, ap, ◌∙◌, arith, inl, inr}
use Rattle.std.specs.Prelude.{◌&&◌, ◌==◌, nat_le, min, ℤ, pos, negsuc}
use Rattle.std.specs.List.{list_all, position_or_len, range_with_len}
use Rattle.std.specs.Fmt.{decimal, digits, signed_decimal}
use Rattle.std.specs.Str.Parse.{AllDigits}
use Rattle.std.proofs.Math.Nat.{div-div-eq-div-mul}
use Rattle.std.proofs.lemmas.Bool.{cases_lt, eqb-true, ne_eqb}
use Rattle.std.proofs.lemmas.Bool.Decides.{nat_tests}
use Rattle.std.proofs.lemmas.Fmt.{decimal_is_IsNumeral}
use Rattle.std.proofs.lemmas.Str.Parse.{digit_from_value}
use Rattle.strand_base.specs.Number.{hexadecimal_of}
use Rattle.strand_base.specs.Hexadecimal.{hex_digit, hex16}
use Rattle.strand_isa.specs.Print.{register_text, short_hex}
use Rattle.strand_base.proofs.TextAgain.{decimal_again}
use Rattle.strand_base.proofs.HexAgain.{low_digits, all_sixteen, next_power, low_again}
use Rattle.strand_asm_lines.specs.Token.{is_hexadecimal, is_negative, negative_of, number_of, numbered_register, offset_of, register_of, two_digits}
use Rattle.strand_asm.proofs.ListAgain.Lines.{and_both}

and_false : (a : Bool) → (a && false) ≡ false
and_false true = refl
and_false false = refl

pub all_weaken : (p q : ℕ → Bool) → ((b : ℕ) → p b ≡ true → q b ≡ true) → (s : List ℕ) → list_all p s ≡ true → list_all q s ≡ true
all_weaken p q f [] e = refl
all_weaken p q f (b ∷ s) e =
    let h = and_both (p b) (list_all p s) e in
    rw (f b h.0, all_weaken p q f s h.1) refl

-- the bytes of a number: digits and '-'
abbrev pub is_numeral : ℕ → Bool
is_numeral b = nat_le 45 b && nat_le b 57

abbrev pub IsNumeralText : List ℕ → Type 0
IsNumeralText s = list_all is_numeral s ≡ true

pub digits_numeral : (ds : List ℕ) → AllDigits 10 ds → IsNumeralText ds
digits_numeral [] p = refl
digits_numeral (c ∷ ds) p =
    let r = digit_from_value c p.0 in
    let here : is_numeral c ≡ true = grind (arith, nat_tests) in
    rw (here, digits_numeral ds p.1) refl

pub decimal_numeral : (n : ℕ) → n < 2 ^ 64 → IsNumeralText (decimal n)
decimal_numeral n fits = digits_numeral (decimal n) (decimal_is_IsNumeral n fits).0.1

pub decimal_some : (n : ℕ) → n < 2 ^ 64 → 0 < length (decimal n)
decimal_some n fits = (decimal_is_IsNumeral n fits).0.0

digit_at : (ds : List ℕ) → AllDigits 10 ds → get_or ds 1 0 ≤ 57
digit_at [] p = omega arith
digit_at (c ∷ []) p = omega arith
digit_at (c ∷ d ∷ ds) p = let r = digit_from_value d p.1.0 in omega (arith, r)

not_hexadecimal : (ds : List ℕ) → AllDigits 10 ds → is_hexadecimal ds ≡ false
not_hexadecimal ds p =
    let low = digit_at ds p in
    let other : eqb (get_or ds 1 0) 120 ≡ false = ne_eqb _ 120 (λ e. omega (arith, low)) in
    rw other (and_false _)

not_negative : (ds : List ℕ) → 0 < length ds → AllDigits 10 ds → is_negative ds ≡ false
not_negative [] some p = absurd (omega (arith, some))
not_negative (c ∷ ds) some p =
    let r = digit_from_value c p.0 in
    let other : eqb c 45 ≡ false = ne_eqb c 45 (λ e. omega (arith, r)) in
    rw other (and_false _)

pub number_again : (n : ℕ) → n < 2 ^ 64 → number_of (decimal n) ≡ Some (pos n)
unfolding number_of
number_again n fits =
    let d = decimal_is_IsNumeral n fits in
    rw (not_hexadecimal (decimal n) d.0.1, not_negative (decimal n) d.0.0 d.0.1, decimal_again n fits) refl

minus_not_hexadecimal : (ds : List ℕ) → is_hexadecimal (45 ∷ ds) ≡ false
minus_not_hexadecimal ds = ap (λ (b : Bool). b && eqb (get_or (45 ∷ ds) 1 0) 120) (and_false (nat_le 2 (length (45 ∷ ds))))

minus_negative : (ds : List ℕ) → is_negative (45 ∷ ds) ≡ true
minus_negative ds = let some : nat_le 1 (length (45 ∷ ds)) ≡ true = grind (arith, nat_tests) in rw some refl

negative_again : (n : ℕ) → n < 2 ^ 63 → number_of (45 ∷ decimal (suc n)) ≡ Some (negsuc n)
unfolding number_of negative_of
negative_again n fits =
    let small : nat_le (suc n) (2 ^ 63) ≡ true = grind (arith, nat_tests) in
    rw (minus_not_hexadecimal (decimal (suc n)), minus_negative (decimal (suc n)), decimal_again (suc n) (omega arith), small) refl

-- the numbers that an instruction's text may have
abbrev pub IsNumber : ℤ → Type 0
IsNumber (pos n) = n < 2 ^ 64
IsNumber (negsuc n) = n < 2 ^ 63

pub signed_again : (z : ℤ) → IsNumber z → number_of (signed_decimal z) ≡ Some z
signed_again (pos n) fits = number_again n fits
signed_again (negsuc n) fits = negative_again n fits

pub signed_numeral : (z : ℤ) → IsNumber z → IsNumeralText (signed_decimal z)
signed_numeral (pos n) fits = decimal_numeral n fits
signed_numeral (negsuc n) fits = rw (decimal_numeral (suc n) (omega arith)) refl

pub signed_some : (z : ℤ) → IsNumber z → 0 < length (signed_decimal z)
signed_some (pos n) fits = decimal_some n fits
signed_some (negsuc n) fits = omega arith

-- the digits behind the first k
pub lower_digits : (n m k : ℕ) → k ≤ m → drop k (low_digits n m) ≡ low_digits n (m - k)
lower_digits n m zero le = let e : m - 0 ≡ m = omega arith in rw e refl
lower_digits n zero (suc k) le = absurd (omega (arith, le))
lower_digits n (suc m) (suc k) le = let e : suc m - suc k ≡ m - k = omega arith in rw e (lower_digits n m k (omega (arith, le)))

pub hex_number : (ds : List ℕ) (n : ℕ) → hexadecimal_of ds ≡ Ok n → number_of (48 ∷ 120 ∷ ds) ≡ Some (pos n)
unfolding number_of
hex_number ds n e =
    let some : nat_le 2 (length (48 ∷ 120 ∷ ds)) ≡ true = grind (arith, nat_tests) in
    rw (some, e) refl

-- leading zeros
first_zero : (b : Bool) (r k : ℕ) → suc k ≤ cond (not (not b)) (1 + r) 0 → (b ≡ true) × (k ≤ r)
first_zero true r k le = (refl, omega (arith, le))
first_zero false r k le = absurd (omega (arith, le))

zero_digit : (d : ℕ) → d < 16 → eqb (hex_digit d) 48 ≡ true → d ≡ 0
zero_digit d lt e = grind (arith, nat_tests)

stripped : (n m k : ℕ) → k ≤ m → n / 2 ^ (4 * m) ≡ 0 → k ≤ position_or_len (λ d. not (d == 48)) (low_digits n m) → n / 2 ^ (4 * (m - k)) ≡ 0
stripped n m zero le high zeros = let e : m - 0 ≡ m = omega arith in rw e high
stripped n zero (suc k) le high zeros = absurd (omega (arith, le))
stripped n (suc m) (suc k) le high zeros =
    let q = n / 2 ^ (4 * m) in
    let f = first_zero (eqb (hex_digit (q % 16)) 48) _ k zeros in
    let low : q % 16 < 16 = omega arith in
    let digit : q % 16 ≡ 0 = zero_digit (q % 16) low f.0 in
    let above : q / 16 ≡ 0 = div-div-eq-div-mul n (2 ^ (4 * m)) 16 ∙ ap (λ (p : ℕ). n / p) (sym (next_power m)) ∙ high in
    let none : q ≡ 0 = omega (arith, digit, above) in
    let e : suc m - suc k ≡ m - k = omega arith in
    rw e (stripped n m k (omega (arith, le)) none f.1)

pub short_is_low : (n : ℕ) → n < 2 ^ 64 → (j : ℕ) × ((short_hex n ≡ low_digits n (suc j)) × (n / 2 ^ (4 * suc j) ≡ 0))
unfolding short_hex
short_is_low n fits =
    let k = min (position_or_len (λ d. not (d == 48)) (low_digits n 16)) 15 in
    let e : 16 - k ≡ suc (15 - k) = omega arith in
    let high : n / 2 ^ (4 * 16) ≡ 0 = omega arith in
    (15 - k, (rw (all_sixteen n) (lower_digits n 16 k (omega arith) ∙ ap (low_digits n) e), rw e at (stripped n 16 k (omega arith) high (omega arith))))

pub short_again : (n : ℕ) → n < 2 ^ 64 → hexadecimal_of (short_hex n) ≡ Ok n
short_again n fits = let h = short_is_low n fits in rw h.1.0 (low_again n h.0 fits h.1.1)

pub word_again : (n from : ℕ) → n < 2 ^ 64 → from ≤ 15 → n / 2 ^ (4 * (16 - from)) ≡ 0 → hexadecimal_of (drop from (hex16 n)) ≡ Ok n
word_again n from fits le high =
    let e : 16 - from ≡ suc (15 - from) = omega arith in
    rw (all_sixteen n, lower_digits n 16 from (omega (arith, le)), e) (low_again n (15 - from) fits (rw e at high))

offset_some : (s : List ℕ) → 0 < length s → offset_of s ≡ number_of s
offset_some [] some = absurd (omega (arith, some))
offset_some (b ∷ s) some = refl

pub offset_again : (z : ℤ) → IsNumber z → offset_of (signed_decimal z) ≡ Some z
offset_again z fits = offset_some (signed_decimal z) (signed_some z fits) ∙ signed_again z fits

-- the registers, one by one
abbrev is_number : ℕ → Option ℕ → Bool
is_number n None = false
is_number n (Some m) = eqb m n

is_some_number : (n : ℕ) (o : Option ℕ) → is_number n o ≡ true → o ≡ Some n
is_some_number n None e = absurd cc
is_some_number n (Some m) e = ap (λ (k : ℕ). Some k) (eqb-true m n e)

in_range : (p : ℕ → Bool) (len a n : ℕ) → list_all p (range_with_len a len) ≡ true → a ≤ n → n < a + len → p n ≡ true
in_range p zero a n e low high = absurd (omega (arith, low, high))
in_range p (suc len) a n e low high =
    let h = and_both (p a) _ e in
    elim (cases_lt a n) [
      | inl above ↦ in_range p len (a + 1) n h.1 (omega (arith, above)) (omega (arith, high))
      | inr here ↦ let same : n ≡ a = omega (arith, low, here) in rw same h.0
    ]

registers_read : list_all (λ n. is_number n (register_of (register_text n))) (range_with_len 0 32) ≡ true
unfolding register_of digits numbered_register two_digits
registers_read = refl

pub register_again : (n : ℕ) → n < 32 → register_of (register_text n) ≡ Some n
register_again n lt = is_some_number n (register_of (register_text n)) (in_range (λ k. is_number k (register_of (register_text k))) 32 0 n registers_read (omega arith) (omega (arith, lt)))
