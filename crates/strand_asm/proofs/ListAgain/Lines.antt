-- Serves clause again of list: lines of plain text are read as they were printed.
use Rattle.std.proofs.Common.{◌≡◌, ◌≢◌, ℕ, ◌≤◌, Bool, true, false, eqb, not, List, [], ◌∷◌, ◌++◌, length, Some, None, Ok, refl, ap, ◌∙◌, arith, append_assoc, inl, inr}
use Rattle.std.specs.Prelude.{◌&&◌, ◌||◌, ◌==◌, nat_le, slice_index}
use Rattle.std.specs.List.{list_all, position_or_len}
use Rattle.std.specs.Char.{is_ascii_graphic}
use Rattle.std.proofs.lemmas.Bool.{ne_eqb, cases_lt}
use Rattle.std.proofs.lemmas.Bool.Decides.{nat_tests}
use Rattle.std.proofs.lemmas.List.{take_all}
use Rattle.std.proofs.lemmas.List.Folds.{list_all-append}
use lib.Chars.{codes}
use Rattle.strand_base.specs.declared.limits.TheConstants.{MOST_LABEL}
use Rattle.strand_base.specs.Name.{is_label, is_name, is_name_byte, is_name_start}
use Rattle.strand_base.specs.Text.{lines_of, without_return_of, content_of, is_blank}
use Rattle.strand_asm_lines.specs.Bytes.{after_blanks, from_first, is_plain, pieces}
use Rattle.strand_asm_lines.specs.Line.{body_by, body_of, line_of, line_parts}
use Rattle.strand_asm_lines.specs.declared.line.Body.{Body}
use Rattle.strand_asm_lines.specs.declared.line.Body.TheVariants as bodies
use Rattle.strand_asm.specs.Listing.{lines_text}

-- a byte that shows, without '#'; and without ':'
abbrev pub is_shown : ℕ → Bool
is_shown b = nat_le 32 b && nat_le b 126 && not (b == 35)

abbrev pub IsShown : List ℕ → Type 0
IsShown s = list_all is_shown s ≡ true

abbrev pub is_text : ℕ → Bool
is_text b = is_shown b && not (b == 58)

abbrev pub IsText : List ℕ → Type 0
IsText s = list_all is_text s ≡ true

pub and_both : (a b : Bool) → (a && b) ≡ true → (a ≡ true) × (b ≡ true)
and_both true b e = (refl, e)
and_both false b e = absurd cc

shown_byte : (b : ℕ) → is_shown b ≡ true → (32 ≤ b) × (b ≤ 126) × (b ≢ 35)
shown_byte b e =
    let q = and_both (nat_le 32 b && nat_le b 126) (not (b == 35)) e in
    let r = and_both (nat_le 32 b) (nat_le b 126) q.0 in
    (grind (arith, nat_tests, r.0), grind (arith, nat_tests, r.1), (λ same. let t = q.1 in grind (arith, nat_tests)))

no_colon_byte : (b : ℕ) → is_text b ≡ true → eqb b 58 ≡ false
no_colon_byte b e = let p = and_both (is_shown b) (not (b == 58)) e in ne_eqb b 58 (λ same. let t = p.1 in grind (arith, nat_tests))

pub text_shown : (s : List ℕ) → IsText s → IsShown s
text_shown [] p = refl
text_shown (b ∷ s) p =
    let h = and_both (is_text b) (list_all is_text s) p in
    rw ((and_both (is_shown b) (not (b == 58)) h.0).0, text_shown s h.1) refl

pub text_append : (s t : List ℕ) → IsText s → IsText t → IsText (s ++ t)
text_append s t p q = rw (list_all-append is_text s t, p, q) refl

pub line_front : (s rest : List ℕ) → IsShown s → lines_of (s ++ 10 ∷ rest) ≡ s ∷ lines_of rest
unfolding lines_of
line_front [] rest p = refl
line_front (b ∷ s) rest p =
    let h = and_both (is_shown b) (list_all is_shown s) p in
    let k = shown_byte b h.0 in
    let other : eqb b 10 ≡ false = ne_eqb b 10 (λ e. omega (arith, k.0)) in
    rw (other, line_front s rest h.1) refl

no_return : (s : List ℕ) → IsShown s → without_return_of s ≡ s
unfolding without_return_of
no_return [] p = refl
no_return (b ∷ []) p =
    let h = and_both (is_shown b) true p in
    let k = shown_byte b h.0 in
    let other : eqb b 13 ≡ false = ne_eqb b 13 (λ e. omega (arith, k.0)) in
    rw other refl
no_return (b ∷ c ∷ s) p = ap (λ (l : List ℕ). b ∷ l) (no_return (c ∷ s) (and_both (is_shown b) _ p).1)

no_comment_len : (s : List ℕ) → IsShown s → length s ≤ position_or_len (λ b. eqb b 35) s
no_comment_len [] p = omega arith
no_comment_len (b ∷ s) p =
    let h = and_both (is_shown b) (list_all is_shown s) p in
    let k = shown_byte b h.0 in
    let other : eqb b 35 ≡ false = ne_eqb b 35 k.2 in
    rw other (omega (arith, no_comment_len s h.1))

content_same : (s : List ℕ) → IsShown s → content_of s ≡ s
unfolding content_of
content_same s p = rw (no_return s p) (take_all _ s (no_comment_len s p))

or_true : (a : Bool) → (a || true) ≡ true
or_true true = refl
or_true false = refl

plain_byte : (b : ℕ) → is_shown b ≡ true → is_plain b ≡ true
plain_byte b e =
    let k = shown_byte b e in
    elim (cases_lt 32 b) [
      | inr low ↦ let same : b ≡ 32 = omega (arith, k.0) in rw same refl
      | inl high ↦ let shows : is_ascii_graphic b ≡ true = grind (arith, nat_tests) in rw shows (or_true (is_blank b))
    ]

all_plain : (s : List ℕ) → IsShown s → list_all is_plain s ≡ true
all_plain [] p = refl
all_plain (b ∷ s) p =
    let h = and_both (is_shown b) (list_all is_shown s) p in
    rw (plain_byte b h.0, all_plain s h.1) refl

no_colon : (s : List ℕ) → IsText s → pieces 58 s ≡ s ∷ []
unfolding pieces
no_colon [] p = refl
no_colon (b ∷ s) p =
    let h = and_both (is_text b) (list_all is_text s) p in
    rw (no_colon_byte b h.0, no_colon s h.1) refl

-- a line without a label
pub line_reads : (s : List ℕ) (body : Body) → IsText s → body_of s ≡ Ok body → line_of s ≡ Ok (record { label = None; body = body })
unfolding line_of line_parts
line_reads s body p e =
    let shown = text_shown s p in
    rw (content_same s shown, all_plain s shown, no_colon s p, e) refl

-- the line of a label alone
colon_last : (s : List ℕ) → IsText s → pieces 58 (s ++ 58 ∷ []) ≡ s ∷ [] ∷ []
unfolding pieces
colon_last [] p = refl
colon_last (b ∷ s) p =
    let h = and_both (is_text b) (list_all is_text s) p in
    rw (no_colon_byte b h.0, colon_last s h.1) refl

name_text_byte : (b : ℕ) → is_name_byte b ≡ true → is_text b ≡ true
name_text_byte b e =
    let low : nat_le 32 b ≡ true = grind (arith, nat_tests) in
    let high : nat_le b 126 ≡ true = grind (arith, nat_tests) in
    rw (low, high, ne_eqb b 35 (λ same. grind (arith, nat_tests)), ne_eqb b 58 (λ same. grind (arith, nat_tests))) refl

bytes_text : (s : List ℕ) → list_all is_name_byte s ≡ true → IsText s
bytes_text [] p = refl
bytes_text (b ∷ s) p =
    let h = and_both (is_name_byte b) (list_all is_name_byte s) p in
    rw (name_text_byte b h.0, bytes_text s h.1) refl

label_text : (s : List ℕ) → is_label s ≡ true → IsText s
label_text s e =
    let named = and_both (is_name s) (nat_le (length s) MOST_LABEL) e in
    bytes_text s (and_both (nat_le 1 (length s) && is_name_start (slice_index s 0)) (list_all is_name_byte s) named.0).1

-- A name does not begin with a blank.
no_blanks : (s : List ℕ) → is_name s ≡ true → after_blanks s ≡ s
unfolding from_first
no_blanks [] e = refl
no_blanks (b ∷ s) e =
    let some = (and_both (nat_le 1 (length (b ∷ s)) && is_name_start b) (list_all is_name_byte (b ∷ s)) e).0 in
    let starts = (and_both (nat_le 1 (length (b ∷ s))) (is_name_start b) some).1 in
    let shows : not (is_blank b) ≡ true = grind (arith, nat_tests) in
    rw shows refl

pub label_line_shown : (s : List ℕ) → is_label s ≡ true → IsShown (s ++ codes ":")
label_line_shown s e = rw (list_all-append is_shown s (codes ":"), text_shown s (label_text s e)) refl

pub label_line_reads : (s : List ℕ) → is_label s ≡ true → line_of (s ++ codes ":") ≡ Ok (record { label = Some s; body = bodies.Empty })
unfolding line_of line_parts body_by from_first
label_line_reads s e =
    let both = and_both (is_name s) (nat_le (length s) MOST_LABEL) e in
    let shown = label_line_shown s e in
    rw (content_same (s ++ codes ":") shown, all_plain (s ++ codes ":") shown, colon_last s (label_text s e), no_blanks s both.0, both.0, both.1) refl

-- the lines of a text
pub lines_again : (ls : List (List ℕ)) → list_all (λ l. list_all is_shown l) ls ≡ true → lines_of (lines_text ls) ≡ ls
unfolding lines_of lines_text
lines_again [] p = refl
lines_again (l ∷ ls) p =
    let h = and_both (list_all is_shown l) _ p in
    rw (append_assoc l (10 ∷ []) (lines_text ls)) (line_front l (lines_text ls) h.0 ∙ ap (λ (rest : List (List ℕ)). l ∷ rest) (lines_again ls h.1))
