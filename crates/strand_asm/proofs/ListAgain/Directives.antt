-- Serves clause again of list: the lines of a listing that are no instructions.
use Rattle.std.proofs.Common.{◌≡◌, ℕ, ◌-◌, ◌*◌, ◌/◌, ◌^◌, ◌<◌, ◌≤◌, true, List, [], ◌∷◌, ◌++◌, drop, Ok, refl, ◌∙◌, arith}
use Rattle.std.specs.Prelude.{nat_le, pos}
use Rattle.std.specs.Fmt.{decimal}
use Rattle.std.proofs.lemmas.List.{append-nil}
use Rattle.std.proofs.lemmas.Bool.Decides.{nat_tests}
use lib.Chars.{codes}
use Rattle.strand_base.specs.declared.limits.TheConstants.{MOST_DATA}
use Rattle.strand_base.specs.Hexadecimal.{hex16}
use Rattle.strand_base.specs.Text.{words_of, pieces_of}
use Rattle.strand_asm_lines.specs.Bytes.{from_first, operand_texts}
use Rattle.strand_asm_lines.specs.Line.{body_by, body_of, directive_of}
use Rattle.strand_asm_lines.specs.declared.line.Operand.TheVariants as operands
use Rattle.strand_asm_lines.specs.declared.line.Section.TheVariants as sections
use Rattle.strand_asm_lines.specs.declared.line.Body.{Body}
use Rattle.strand_asm_lines.specs.declared.line.Body.TheVariants as bodies
use Rattle.strand_asm.specs.Listing.{entry_text, word_text}
use Rattle.strand_asm.proofs.ListAgain.Lines.{IsText, line_reads, text_append}
use Rattle.strand_base.proofs.HexAgain.{all_sixteen}
use Rattle.strand_asm.proofs.ListAgain.Tokens.{hex_number, lower_digits, number_again, word_again}
use Rattle.strand_asm.proofs.ListAgain.Operands.{IsSolid, lone_solid, low_solid, not_empty, number_solid, one_piece, solid_text, texts_of}
use Rattle.strand_asm.proofs.ListAgain.OneLine.{Says}

-- a printed line, and what it says
pub record Printed (text : List ℕ) (body : Body) : Type 0 where
  pub plain : IsText text
  pub says : Says text body

pub printed : (text : List ℕ) (body : Body) → IsText text → body_of text ≡ Ok body → Printed text body
printed text body plain e = record { plain = plain; says = line_reads text body plain e }

texts_alone : (a : List ℕ) → IsSolid a → operand_texts (32 ∷ a) ≡ (32 ∷ a) ∷ []
texts_alone a p = rw append-nil at (texts_of a [] p) ∙ one_piece a p

pub code_line : Printed (codes ".code") (bodies.Section sections.Code)
unfolding body_by directive_of from_first words_of pieces_of
code_line = printed (codes ".code") _ refl refl

pub volatile_line : Printed (codes ".volatile") (bodies.Section sections.Volatile)
unfolding body_by directive_of from_first words_of pieces_of
volatile_line = printed (codes ".volatile") _ refl refl

pub persist_line : Printed (codes ".persist") (bodies.Section sections.Persist)
unfolding body_by directive_of from_first words_of pieces_of
persist_line = printed (codes ".persist") _ refl refl

pub entry_line : (n : ℕ) → n < 2 ^ 64 → Printed (entry_text n) (bodies.Entry (operands.Num (pos n)))
unfolding body_by directive_of from_first
entry_line n fits =
    let p = number_solid (pos n) fits in
    printed (entry_text n) _ (text_append (codes ".entry ") (decimal n) refl (solid_text (decimal n) p.solid))
    (rw (texts_alone (decimal n) p, one_piece (decimal n) p, not_empty (decimal n) [] p, lone_solid (decimal n) p, number_again n fits) refl)

pub space_line : (n : ℕ) → n ≤ MOST_DATA → Printed (codes ".space " ++ decimal n) (bodies.Space n)
unfolding body_by directive_of from_first
space_line n le =
    let fits : n < 2 ^ 64 = omega (arith, le) in
    let p = number_solid (pos n) fits in
    let small : nat_le n MOST_DATA ≡ true = grind (arith, nat_tests) in
    printed (codes ".space " ++ decimal n) _ (text_append (codes ".space ") (decimal n) refl (solid_text (decimal n) p.solid))
    (rw (texts_alone (decimal n) p, one_piece (decimal n) p, not_empty (decimal n) [] p, lone_solid (decimal n) p, number_again n fits, small) refl)

digits_solid : (n from : ℕ) → from ≤ 15 → IsSolid (48 ∷ 120 ∷ drop from (hex16 n))
digits_solid n from le = record { some = omega arith; solid = rw (all_sixteen n, lower_digits n 16 from (omega (arith, le)), low_solid n (16 - from)) refl }

pub word_line : (from n : ℕ) → from ≤ 15 → n < 2 ^ 64 → n / 2 ^ (4 * (16 - from)) ≡ 0 → Printed (word_text from n) (bodies.Word (pos n))
unfolding body_by directive_of from_first
word_line from n le fits high =
    let a = 48 ∷ 120 ∷ drop from (hex16 n) in
    let p = digits_solid n from le in
    printed (word_text from n) _ (text_append (codes ".word ") a refl (solid_text a p.solid))
    (rw (texts_alone a p, one_piece a p, not_empty a [] p, lone_solid a p, hex_number (drop from (hex16 n)) n (word_again n from fits le high)) refl)
