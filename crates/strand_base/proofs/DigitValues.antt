-- Serves read_decimal and read_hex: the value of digits never falls as more of them are read.
use Rattle.std.proofs.Common.{◌≡◌, ℕ, ◌+◌, ◌*◌, ◌^◌, ◌<◌, ◌≤◌, Bool, true, not, List, [], ◌∷◌, ◌++◌, length, get_or, take, drop, Option, Some, None, refl, sym, ap, ◌∙◌, arith}
use Rattle.std.specs.Char.{digit_value, is_ascii_digit, is_ascii_hexdigit}
use Rattle.std.specs.Str.Parse.{digits_value, digits_value_after}
use Rattle.std.specs.Prelude.{position, IfNone}
use Rattle.std.specs.List.{AllPass}
use Rattle.std.proofs.Math.Nat.{le-mul_of_pos_right}
use Rattle.std.proofs.lemmas.List.{take-append-drop, get_or_default}
use Rattle.std.proofs.lemmas.Int.Digits.{digits_value_more}
use Rattle.std.proofs.lemmas.Bool.Decides.{nat_tests}
use Rattle.strand_base.proofs.LinesAndWords.{none_passes, not_false}

grows : (base n : ℕ) (ds : List ℕ) → 0 < base → n ≤ digits_value_after base n ds
grows base n [] pos = omega arith
grows base n (c ∷ cs) pos = omega (arith, le-mul_of_pos_right n pos, grows base (n * base + digit_value c) cs pos)

after_front : (base n : ℕ) (xs ys : List ℕ) → digits_value_after base n (xs ++ ys) ≡ digits_value_after base (digits_value_after base n xs) ys
after_front base n [] ys = refl
after_front base n (x ∷ xs) ys = after_front base (n * base + digit_value x) xs ys

value_of_front : (base i : ℕ) (ds : List ℕ) → 0 < base → digits_value base (take i ds) ≤ digits_value base ds
value_of_front base i ds pos =
    let whole : digits_value base ds ≡ digits_value_after base (digits_value base (take i ds)) (drop i ds) = ap (digits_value base) (sym (take-append-drop i ds)) ∙ after_front base 0 (take i ds) (drop i ds) in
    omega (arith, whole, grows base (digits_value base (take i ds)) (drop i ds) pos)

-- one more digit
pub one_more : (base : ℕ) (ds : List ℕ) (i value : ℕ) → i < length ds → value ≡ digits_value base (take i ds) → digits_value base (take (i + 1) ds) ≡ value * base + digit_value (get_or ds i 0)
one_more base ds i value lt e = digits_value_more base ds i lt ∙ ap (λ v. v * base + digit_value (get_or ds i 0)) (sym e)

-- a front past the bound
pub stops : (base : ℕ) (ds : List ℕ) (i value : ℕ) → 0 < base → i < length ds → value ≡ digits_value base (take i ds) → (value * base + digit_value (get_or ds i 0) < 2 ^ 64 → ⊥) → digits_value base ds < 2 ^ 64 → ⊥
stops base ds i value pos lt e past fits = past (omega (arith, value_of_front base (i + 1) ds pos, one_more base ds i value lt e))

pub all_pass : (is_digit : ℕ → Bool) (ds : List ℕ) → None ≡ position (λ c. not (is_digit c)) ds → AllPass is_digit ds
all_pass is_digit ds e k d lt = rw (get_or_default ds k d 0 lt) (not_false (is_digit (get_or ds k 0)) (none_passes (λ c. not (is_digit c)) ds (sym e) k lt))

hex_from_decimal : (c : ℕ) → is_ascii_digit c ≡ true → is_ascii_hexdigit c ≡ true
hex_from_decimal c e = grind (arith, nat_tests)

pub all_hex : (ds : List ℕ) → AllPass is_ascii_digit ds → AllPass is_ascii_hexdigit ds
all_hex ds all k d lt = hex_from_decimal (get_or ds k d) (all k d lt)

-- where the first byte that is no digit was looked for and not found
pub digits_found : (is_digit : ℕ → Bool) (ds : List ℕ) (bad : Option ℕ) → bad ≡ position (λ c. not (is_digit c)) ds → IfNone bad (AllPass is_digit ds)
digits_found is_digit ds None e = all_pass is_digit ds e
digits_found is_digit ds (Some at) e = tt

pub hex_digits_found : (ds : List ℕ) (bad : Option ℕ) → bad ≡ position (λ c. not (is_ascii_digit c)) ds → IfNone bad (AllPass is_ascii_hexdigit ds)
hex_digits_found ds None e = all_hex ds (all_pass is_ascii_digit ds e)
hex_digits_found ds (Some at) e = tt
