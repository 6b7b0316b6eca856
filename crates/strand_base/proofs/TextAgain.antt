-- Serves clauses again of print_machine, print_schedule and list: printed lines and numbers are read again.
use Rattle.std.proofs.Common.{◌≡◌, ◌≢◌, ℕ, suc, ◌+◌, ◌^◌, ◌<◌, ◌≤◌, true, false, eqb, ltb, not, List, [], ◌∷◌, ◌++◌, length, None, Ok, refl, ap, ◌∙◌, append_assoc, arith}
use Rattle.std.specs.Prelude.{position}
use Rattle.std.specs.List.{position_or_len, enumerate_from, AllByRecursion}
use Rattle.std.specs.Char.{is_ascii_digit, digit_value}
use Rattle.std.specs.Fmt.{decimal}
use Rattle.std.specs.Str.Parse.{AllDigits, digits_value}
use Rattle.std.proofs.lemmas.Bool.{ne_eqb, le-ltb, lt-ltb}
use Rattle.std.proofs.lemmas.Bool.Decides.{nat_tests}
use Rattle.std.proofs.lemmas.Fmt.{decimal_is_IsNumeral}
use Rattle.std.proofs.lemmas.Str.Parse.{digit_from_value}
use Rattle.std.proofs.lemmas.List.{take_all}
use Rattle.strand_base.specs.Number.{decimal_of}
use Rattle.strand_base.specs.Text.{lines_of, without_return_of, content_of, is_blank, pieces_of, words_of, numbered_lines, text_lines, spaced, joined_words, text_of, IsPlainWord, IsPlainLine}

-- a byte of a printed line: no newline, no carriage return, no '#'
abbrev InLine : ℕ → Type 0
InLine b = (32 ≤ b) × (b ≢ 35)

in_line_append : (s t : List ℕ) → AllByRecursion InLine s → AllByRecursion InLine t → AllByRecursion InLine (s ++ t)
in_line_append [] t p q = q
in_line_append (b ∷ s) t p q = (p.0, in_line_append s t p.1 q)

in_line_bytes : (w : List ℕ) → AllByRecursion (λ b. 36 ≤ b) w → AllByRecursion InLine w
in_line_bytes [] p = tt
in_line_bytes (b ∷ w) p = ((omega (arith, p.0), λ e. omega (arith, p.0)), in_line_bytes w p.1)

in_line_word : (w : List ℕ) → IsPlainWord w → AllByRecursion InLine w
in_line_word [] p = tt
in_line_word (b ∷ w) p = ((omega (arith, p.0), λ e. omega (arith, p.0)), in_line_bytes w p.1)

in_line_spaced : (ws : List (List ℕ)) → AllByRecursion IsPlainWord ws → AllByRecursion InLine (spaced ws)
in_line_spaced [] p = tt
in_line_spaced (w ∷ ws) p = ((omega arith, λ e. omega arith), in_line_append w (spaced ws) (in_line_word w p.0) (in_line_spaced ws p.1))

in_line_joined : (ws : List (List ℕ)) → AllByRecursion IsPlainWord ws → AllByRecursion InLine (joined_words ws)
in_line_joined [] p = tt
in_line_joined (w ∷ ws) p = in_line_append w (spaced ws) (in_line_word w p.0) (in_line_spaced ws p.1)

line_front : (s rest : List ℕ) → AllByRecursion InLine s → lines_of (s ++ 10 ∷ rest) ≡ s ∷ lines_of rest
unfolding lines_of
line_front [] rest p = refl
line_front (b ∷ s) rest p =
    let other : eqb b 10 ≡ false = ne_eqb b 10 (λ e. omega (arith, p.0.0)) in
    rw (other, line_front s rest p.1) refl

no_return : (s : List ℕ) → AllByRecursion InLine s → without_return_of s ≡ s
unfolding without_return_of
no_return [] p = refl
no_return (b ∷ []) p =
    let other : eqb b 13 ≡ false = ne_eqb b 13 (λ e. omega (arith, p.0.0)) in
    rw other refl
no_return (b ∷ c ∷ s) p = ap (λ (l : List ℕ). b ∷ l) (no_return (c ∷ s) p.1)

no_comment_len : (s : List ℕ) → AllByRecursion InLine s → length s ≤ position_or_len (λ b. eqb b 35) s
no_comment_len [] p = omega arith
no_comment_len (b ∷ s) p =
    let other : eqb b 35 ≡ false = ne_eqb b 35 p.0.1 in
    rw other (omega (arith, no_comment_len s p.1))

content_same : (s : List ℕ) → AllByRecursion InLine s → content_of s ≡ s
unfolding content_of
content_same s p = rw (no_return s p) (take_all (position_or_len (λ b. eqb b 35) s) s (no_comment_len s p))

not_blank : (b : ℕ) → 36 ≤ b → is_blank b ≡ false
not_blank b le =
    let space : eqb b 32 ≡ false = ne_eqb b 32 (λ e. omega arith) in
    let tab : eqb b 9 ≡ false = ne_eqb b 9 (λ e. omega arith) in
    rw (space, tab) refl

pieces_bytes : (w s : List ℕ) → AllByRecursion (λ b. 36 ≤ b) w → pieces_of (w ++ 32 ∷ s) ≡ w ∷ pieces_of s
unfolding pieces_of
pieces_bytes [] s p = refl
pieces_bytes (b ∷ w) s p = rw (not_blank b p.0, pieces_bytes w s p.1) refl

pieces_last : (w : List ℕ) → AllByRecursion (λ b. 36 ≤ b) w → pieces_of (w ++ []) ≡ w ∷ []
unfolding pieces_of
pieces_last [] p = refl
pieces_last (b ∷ w) p = rw (not_blank b p.0, pieces_last w p.1) refl

words_again : (ws : List (List ℕ)) → AllByRecursion IsPlainWord ws → words_of (joined_words ws) ≡ ws
unfolding words_of pieces_of
words_again [] p = refl
words_again ([] ∷ ws) p = absurd p.0
words_again ((b ∷ w) ∷ []) p = rw (pieces_last (b ∷ w) p.0) refl
words_again ((b ∷ w) ∷ v ∷ ws) p =
    rw (pieces_bytes (b ∷ w) (joined_words (v ∷ ws)) p.0) (ap (λ (l : List (List ℕ)). (b ∷ w) ∷ l) (words_again (v ∷ ws) p.1))

line_again : (ws : List (List ℕ)) → AllByRecursion IsPlainWord ws → words_of (content_of (joined_words ws)) ≡ ws
line_again ws p = ap words_of (content_same (joined_words ws) (in_line_joined ws p)) ∙ words_again ws p

lines_again : (n : ℕ) (wss : List (List (List ℕ))) → AllByRecursion IsPlainLine wss → numbered_lines n (lines_of (text_of wss)) ≡ enumerate_from n wss
unfolding numbered_lines lines_of
lines_again n [] p = refl
lines_again n ([] ∷ wss) p = absurd p.0
lines_again n ((w ∷ ws) ∷ wss) p =
    let front : lines_of (text_of ((w ∷ ws) ∷ wss)) ≡ joined_words (w ∷ ws) ∷ lines_of (text_of wss) = ap lines_of (append_assoc (joined_words (w ∷ ws)) (10 ∷ []) (text_of wss)) ∙ line_front (joined_words (w ∷ ws)) (text_of wss) (in_line_joined (w ∷ ws) p.0) in
    rw (front, line_again (w ∷ ws) p.0, lines_again (n + 1) wss p.1) refl

-- lines of plain words are read again
pub text_again : (wss : List (List (List ℕ))) → AllByRecursion IsPlainLine wss → text_lines (text_of wss) ≡ enumerate_from 1 wss
unfolding text_lines
text_again wss p = lines_again 1 wss p

digit_test : (c : ℕ) → digit_value c < 10 → is_ascii_digit c ≡ true
digit_test c lt = let r = digit_from_value c lt in grind (arith, nat_tests)

all_pass : (ds : List ℕ) → AllDigits 10 ds → position_or_len (λ c. not (is_ascii_digit c)) ds ≡ length ds
all_pass [] p = refl
all_pass (c ∷ cs) p =
    let rest : 1 + position_or_len (λ d. not (is_ascii_digit d)) cs ≡ suc (length cs) = omega (arith, all_pass cs p.1) in
    rw (digit_test c p.0) rest

none_bad : (ds : List ℕ) → AllDigits 10 ds → position (λ c. not (is_ascii_digit c)) ds ≡ None
none_bad ds p =
    let past : ltb (position_or_len (λ c. not (is_ascii_digit c)) ds) (length ds) ≡ false = le-ltb _ _ (omega (arith, all_pass ds p)) in
    rw past refl

digits_again : (ds : List ℕ) (n : ℕ) → 0 < length ds → AllDigits 10 ds → digits_value 10 ds ≡ n → n < 2 ^ 64 → decimal_of ds ≡ Ok n
unfolding decimal_of
digits_again [] n lt p e fits = absurd (omega arith)
digits_again (c ∷ cs) n lt p e fits =
    let small : ltb (digits_value 10 (c ∷ cs)) (2 ^ 64) ≡ true = lt-ltb _ _ (omega arith) in
    rw (none_bad (c ∷ cs) p, small) (ap (λ (m : ℕ). Ok m) e)

-- a printed number is read again
pub decimal_again : (n : ℕ) → n < 2 ^ 64 → decimal_of (decimal n) ≡ Ok n
decimal_again n fits =
    let d = decimal_is_IsNumeral n fits in
    digits_again (decimal n) n d.0.0 d.0.1 d.1 fits

digits_bytes : (ds : List ℕ) → AllDigits 10 ds → AllByRecursion (λ b. 36 ≤ b) ds
digits_bytes [] p = tt
digits_bytes (c ∷ cs) p = (omega (arith, digit_from_value c p.0), digits_bytes cs p.1)

digits_word : (ds : List ℕ) → 0 < length ds → AllDigits 10 ds → IsPlainWord ds
digits_word [] lt p = absurd (omega arith)
digits_word (c ∷ cs) lt p = digits_bytes (c ∷ cs) p

-- and is a plain word
pub decimal_plain : (n : ℕ) → n < 2 ^ 64 → IsPlainWord (decimal n)
decimal_plain n fits =
    let d = decimal_is_IsNumeral n fits in
    digits_word (decimal n) d.0.0 d.0.1
