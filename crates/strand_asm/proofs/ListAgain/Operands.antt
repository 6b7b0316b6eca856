-- Serves clause again of list: operands that were printed are read again.
use Rattle.std.proofs.Common.{◌≡◌, ◌≢◌, ℕ, zero, suc, ◌*◌, ◌/◌, ◌%◌, ◌^◌, ◌<◌, ◌≤◌, Bool, true, false, eqb, not, List, [], ◌∷◌, ◌++◌, length, Some, Ok, refl, sym, arith, append_assoc}
use Rattle.std.specs.Prelude.{◌&&◌, ◌==◌, nat_le, ℤ, pos}
use Rattle.std.specs.List.{list_all}
use Rattle.std.specs.Fmt.{decimal, signed_decimal}
use Rattle.std.proofs.lemmas.Bool.{ne_eqb}
use Rattle.std.proofs.lemmas.Bool.Decides.{nat_tests}
use Rattle.std.proofs.lemmas.List.Folds.{list_all-append}
use Rattle.std.proofs.lemmas.List.{length-append}
use Rattle.strand_base.specs.Hexadecimal.{hex_digit}
use Rattle.strand_base.specs.Text.{onto_first, pieces_of, filled, words_of}
use Rattle.strand_isa.specs.Print.{field_text, memory_text, register_text, short_hex}
use Rattle.strand_asm_lines.specs.Bytes.{pieces, operands_when, operand_texts, some_empty}
use Rattle.strand_asm_lines.specs.Token.{bracketed}
use Rattle.strand_asm_lines.specs.Line.{memory_of, operand_of}
use Rattle.strand_asm_lines.specs.Table.{form_of}
use Rattle.strand_asm_lines.specs.declared.mnemonic.Mnemonic.TheVariants.{Jal, Jalr, Li, Mv}
use Rattle.strand_asm_lines.specs.declared.line.Operand.TheVariants as operands
use Rattle.strand_asm.proofs.ListAgain.Lines.{IsText, and_both, is_text}
use Rattle.strand_base.proofs.HexAgain.{low_digits}
use Rattle.strand_asm.proofs.ListAgain.Tokens.{IsNumber, IsNumeralText, all_weaken, decimal_numeral, hex_number, is_numeral, offset_again, register_again, short_again, short_is_low, signed_again, signed_numeral, signed_some}

-- a byte of an operand: it shows, and is no ',', '#' or ':'
abbrev pub is_solid : ℕ → Bool
is_solid b = nat_le 33 b && nat_le b 126 && not (b == 35) && not (b == 44) && not (b == 58)

pub record IsSolid (s : List ℕ) : Type 0 where
  pub some : 0 < length s
  pub solid : list_all is_solid s ≡ true

solid_byte : (b : ℕ) → is_solid b ≡ true → (33 ≤ b) × (b ≤ 126) × (b ≢ 35) × (b ≢ 44) × (b ≢ 58)
solid_byte b e =
    let p = and_both (nat_le 33 b && nat_le b 126 && not (b == 35) && not (b == 44)) (not (b == 58)) e in
    let q = and_both (nat_le 33 b && nat_le b 126 && not (b == 35)) (not (b == 44)) p.0 in
    let r = and_both (nat_le 33 b && nat_le b 126) (not (b == 35)) q.0 in
    let s = and_both (nat_le 33 b) (nat_le b 126) r.0 in
    (grind (arith, nat_tests, s.0), grind (arith, nat_tests, s.1), (λ same. let t = r.1 in grind (arith, nat_tests)), (λ same. let t = q.1 in grind (arith, nat_tests)), (λ same. let t = p.1 in grind (arith, nat_tests)))

solid_text_byte : (b : ℕ) → is_solid b ≡ true → is_text b ≡ true
solid_text_byte b e =
    let k = solid_byte b e in
    let low : nat_le 32 b ≡ true = grind (arith, nat_tests, k.0) in
    let high : nat_le b 126 ≡ true = grind (arith, nat_tests, k.1) in
    rw (low, high, ne_eqb b 35 k.2, ne_eqb b 58 k.4) refl

pub solid_text : (s : List ℕ) → list_all is_solid s ≡ true → IsText s
solid_text s e = all_weaken is_solid is_text solid_text_byte s e

numeral_solid_byte : (b : ℕ) → is_numeral b ≡ true → is_solid b ≡ true
numeral_solid_byte b e =
    let k = and_both (nat_le 45 b) (nat_le b 57) e in
    let lower : 45 ≤ b = grind (arith, nat_tests, k.0) in
    let upper : b ≤ 57 = grind (arith, nat_tests, k.1) in
    let low : nat_le 33 b ≡ true = grind (arith, nat_tests) in
    let high : nat_le b 126 ≡ true = grind (arith, nat_tests) in
    rw (low, high, ne_eqb b 35 (λ same. omega arith), ne_eqb b 44 (λ same. omega arith), ne_eqb b 58 (λ same. omega arith)) refl

pub numeral_solid : (s : List ℕ) → IsNumeralText s → list_all is_solid s ≡ true
numeral_solid s e = all_weaken is_numeral is_solid numeral_solid_byte s e

-- the pieces at a byte
abbrev Lacks : ℕ → List ℕ → Type 0
Lacks separator s = list_all (λ b. not (b == separator)) s ≡ true

not_true : (b : Bool) → not b ≡ true → b ≡ false
not_true true e = absurd cc
not_true false e = refl

pieces_cut : (separator : ℕ) (s rest : List ℕ) → Lacks separator s → pieces separator (s ++ separator ∷ rest) ≡ s ∷ pieces separator rest
unfolding pieces
pieces_cut separator [] rest p = let same : eqb separator separator ≡ true = grind (arith, nat_tests) in rw same refl
pieces_cut separator (b ∷ s) rest p =
    let h = and_both (not (b == separator)) _ p in
    rw (not_true _ h.0, pieces_cut separator s rest h.1) refl

pieces_whole : (separator : ℕ) (s : List ℕ) → Lacks separator s → pieces separator s ≡ s ∷ []
unfolding pieces
pieces_whole separator [] p = refl
pieces_whole separator (b ∷ s) p =
    let h = and_both (not (b == separator)) _ p in
    rw (not_true _ h.0, pieces_whole separator s h.1) refl

lacks_comma : (s : List ℕ) → list_all is_solid s ≡ true → Lacks 44 s
lacks_comma s e = all_weaken is_solid (λ b. not (b == 44)) (λ b h. let k = solid_byte b h in rw (ne_eqb b 44 k.3) refl) s e

lacks_open : (s : List ℕ) → IsNumeralText s → Lacks 40 s
lacks_open s e = all_weaken is_numeral (λ b. not (b == 40)) (λ b h. let k = and_both (nat_le 45 b) (nat_le b 57) h in let lower : 45 ≤ b = grind (arith, nat_tests, k.0) in rw (ne_eqb b 40 (λ same. omega arith)) refl) s e

lacks_close : (s : List ℕ) → IsNumeralText s → Lacks 41 s
lacks_close s e = all_weaken is_numeral (λ b. not (b == 41)) (λ b h. let k = and_both (nat_le 45 b) (nat_le b 57) h in let lower : 45 ≤ b = grind (arith, nat_tests, k.0) in rw (ne_eqb b 41 (λ same. omega arith)) refl) s e

-- an operand behind its blank is one word
solid_pieces : (s : List ℕ) → list_all is_solid s ≡ true → pieces_of s ≡ s ∷ []
unfolding pieces_of
solid_pieces [] e = refl
solid_pieces (b ∷ s) e =
    let h = and_both (is_solid b) _ e in
    let k = solid_byte b h.0 in
    rw (ne_eqb b 32 (λ same. omega (arith, k.0)), ne_eqb b 9 (λ same. omega (arith, k.0)), solid_pieces s h.1) refl

pub lone_solid : (s : List ℕ) → IsSolid s → words_of (32 ∷ s) ≡ s ∷ []
unfolding words_of pieces_of
lone_solid [] p = absurd (omega (arith, p.some))
lone_solid (b ∷ s) p = rw (solid_pieces (b ∷ s) p.solid) refl

has_words : (b : ℕ) (ps rest : List (List ℕ)) (text : List ℕ) → operands_when (filled (onto_first b ps)) text ≡ pieces 44 text
has_words b [] rest text = refl
has_words b (p ∷ ps) rest text = refl

-- what follows a word: a blank, an operand, and perhaps more
pub texts_of : (s rest : List ℕ) → IsSolid s → operand_texts (32 ∷ s ++ rest) ≡ pieces 44 (32 ∷ s ++ rest)
unfolding words_of pieces_of
texts_of [] rest p = absurd (omega (arith, p.some))
texts_of (b ∷ s) rest p =
    let h = and_both (is_solid b) _ p.solid in
    let k = solid_byte b h.0 in
    rw (ne_eqb b 32 (λ same. omega (arith, k.0)), ne_eqb b 9 (λ same. omega (arith, k.0))) (has_words b (pieces_of (s ++ rest)) [] (32 ∷ b ∷ s ++ rest))

spaced_lacks : (s : List ℕ) → list_all is_solid s ≡ true → Lacks 44 (32 ∷ s)
spaced_lacks s e = rw (lacks_comma s e) refl

pub one_piece : (a : List ℕ) → IsSolid a → pieces 44 (32 ∷ a) ≡ (32 ∷ a) ∷ []
one_piece a p = pieces_whole 44 (32 ∷ a) (spaced_lacks a p.solid)

pub cut_piece : (a rest : List ℕ) → IsSolid a → pieces 44 (32 ∷ a ++ 44 ∷ rest) ≡ (32 ∷ a) ∷ pieces 44 rest
cut_piece a rest p = pieces_cut 44 (32 ∷ a) rest (spaced_lacks a p.solid)

pub not_empty : (a : List ℕ) (texts : List (List ℕ)) → IsSolid a → some_empty ((32 ∷ a) ∷ texts) ≡ some_empty texts
not_empty a texts p = rw (lone_solid a p) refl

-- each form of operand
pub register_solid : (n : ℕ) → n < 32 → IsSolid (register_text n)
register_solid n lt = record { some = omega arith; solid = rw (numeral_solid (decimal n) (decimal_numeral n (omega arith))) refl }

pub number_solid : (z : ℤ) → IsNumber z → IsSolid (signed_decimal z)
number_solid z fits = record { some = signed_some z fits; solid = numeral_solid (signed_decimal z) (signed_numeral z fits) }

digit_solid : (d : ℕ) → d < 16 → is_solid (hex_digit d) ≡ true
digit_solid d lt = grind (arith, nat_tests)

pub low_solid : (n m : ℕ) → list_all is_solid (low_digits n m) ≡ true
low_solid n zero = refl
low_solid n (suc m) = let low : n / 2 ^ (4 * m) % 16 < 16 = omega arith in rw (digit_solid (n / 2 ^ (4 * m) % 16) low, low_solid n m) refl

pub field_solid : (n : ℕ) → n < 2 ^ 64 → IsSolid (field_text n)
field_solid n fits = let h = short_is_low n fits in record { some = omega arith; solid = rw (h.1.0, low_solid n (suc h.0)) refl }

pub memory_solid : (z : ℤ) (n : ℕ) → IsNumber z → n < 32 → IsSolid (memory_text z n)
memory_solid z n fits lt = record {
  some = rw (length-append (signed_decimal z) (40 ∷ 120 ∷ (decimal n ++ 41 ∷ []))) (omega (arith, signed_some z fits));
  solid = rw (list_all-append is_solid (signed_decimal z) (40 ∷ 120 ∷ (decimal n ++ 41 ∷ [])), numeral_solid (signed_decimal z) (signed_numeral z fits), list_all-append is_solid (decimal n) (41 ∷ []), numeral_solid (decimal n) (decimal_numeral n (omega arith))) refl;
}

lacks_append : (separator : ℕ) (s t : List ℕ) → Lacks separator s → Lacks separator t → Lacks separator (s ++ t)
lacks_append separator s t p q = rw (list_all-append (λ b. not (b == separator)) s t, p, q) refl

bracketed_again : (z : ℤ) (n : ℕ) → IsNumber z → n < 32 → bracketed (memory_text z n) ≡ Some (signed_decimal z, register_text n)
unfolding pieces
bracketed_again z n fits lt =
    let s = signed_decimal z in
    let d = decimal n in
    let digits = decimal_numeral n (omega arith) in
    let closes : Lacks 41 (s ++ 40 ∷ 120 ∷ d) = lacks_append 41 s (40 ∷ 120 ∷ d) (lacks_close s (signed_numeral z fits)) (lacks_close d digits) in
    rw (sym (append_assoc s (40 ∷ 120 ∷ d) (41 ∷ [])), pieces_cut 41 (s ++ 40 ∷ 120 ∷ d) [] closes, pieces_cut 40 s (120 ∷ d) (lacks_open s (signed_numeral z fits)), pieces_whole 40 (120 ∷ d) (lacks_open d digits)) refl

pub register_operand : (n : ℕ) → n < 32 → operand_of (form_of Mv).first (32 ∷ register_text n) ≡ Ok (operands.Reg n)
register_operand n lt = rw (lone_solid (register_text n) (register_solid n lt), register_again n lt) refl

pub number_operand : (z : ℤ) → IsNumber z → operand_of (form_of Li).second (32 ∷ signed_decimal z) ≡ Ok (operands.Num z)
number_operand z fits = rw (lone_solid (signed_decimal z) (number_solid z fits), signed_again z fits) refl

pub target_operand : (z : ℤ) → IsNumber z → operand_of (form_of Jal).second (32 ∷ signed_decimal z) ≡ Ok (operands.Num z)
target_operand z fits = rw (lone_solid (signed_decimal z) (number_solid z fits), signed_again z fits) refl

pub field_operand : (n : ℕ) → n < 2 ^ 64 → operand_of (form_of Li).second (32 ∷ field_text n) ≡ Ok (operands.Num (pos n))
field_operand n fits = rw (lone_solid (field_text n) (field_solid n fits), hex_number (short_hex n) n (short_again n fits)) refl

pub memory_operand : (z : ℤ) (n : ℕ) → IsNumber z → n < 32 → operand_of (form_of Jalr).second (32 ∷ memory_text z n) ≡ Ok (operands.Mem z n)
unfolding memory_of
memory_operand z n fits lt = rw (lone_solid (memory_text z n) (memory_solid z n fits lt), bracketed_again z n fits lt, offset_again z fits, register_again n lt) refl
