-- Serves clause again of list: an instruction's text is read as that instruction, by its number of operands.
use Rattle.std.proofs.Common.{◌≡◌, ℕ, ◌%◌, ◌<◌, true, List, [], ◌∷◌, ◌++◌, Ok, refl, ap, ◌∙◌, arith, append_assoc}
use Rattle.std.specs.Prelude.{◌&&◌, ◌==◌, nat_lt, ℤ, pos, negsuc}
use Rattle.std.proofs.lemmas.Bool.Decides.{nat_tests}
use Rattle.strand_isa.specs.Word.{IsInRange, IsEvenWithin, field_of}
use Rattle.strand_isa.specs.Faults.{is_in_range}
use Rattle.strand_isa.specs.Print.{one, two, three}
use Rattle.strand_isa.specs.declared.instr.Instr.{Instr}
use Rattle.strand_asm_lines.specs.Bytes.{pieces}
use Rattle.strand_asm_lines.specs.Table.{form_of, due_count}
use Rattle.strand_asm_lines.specs.Line.{body_of, instruction_of, operand_of}
use Rattle.strand_asm_lines.specs.declared.mnemonic.Mnemonic.{Mnemonic}
use Rattle.strand_asm_lines.specs.declared.line.Operand.{Operand}
use Rattle.strand_asm_lines.specs.declared.line.Operand.TheVariants as operands
use Rattle.strand_asm_lines.specs.declared.line.Body.TheVariants as bodies
use Rattle.strand_asm_lines.specs.declared.line.Pattern.{Pattern}
use Rattle.strand_asm.specs.Layout.{size_by, size_of}
use Rattle.strand_asm.specs.Encode.{Table, coded, pattern_coded}
use Rattle.strand_asm.specs.declared.coded.Coded.TheVariants.{One}
use Rattle.strand_asm.specs.declared.place.Site.{Site}
use Rattle.strand_asm.proofs.ListAgain.Lines.{IsText, line_reads, text_append}
use Rattle.strand_asm.proofs.ListAgain.Operands.{IsSolid, cut_piece, not_empty, one_piece, solid_text, texts_of}
use Rattle.strand_asm.proofs.ListAgain.Mnemonics.{IsWordOf}
use Rattle.strand_asm.proofs.ListAgain.OneLine.{Says}

pub record ReadsAs (text : List ℕ) (i : Instr) : Type 0 where
  pub pattern : Pattern
  pub plain : IsText text
  pub says : Says text (bodies.Code pattern)
  pub size : size_of pattern ≡ 1
  pub codes : (labels : Table) (site : Site) → pattern_coded labels site pattern ≡ Ok (One i)

abbrev pattern_of : Mnemonic → Operand → Operand → Operand → Pattern
pattern_of op x y z = record { op = op; first = x; second = y; third = z }

two_operands : (op : Mnemonic) (a b : List ℕ) (x y : Operand) → IsSolid a → IsSolid b → due_count (form_of op) ≡ 2
    → operand_of (form_of op).first (32 ∷ a) ≡ Ok x → operand_of (form_of op).second (32 ∷ b) ≡ Ok y → operand_of (form_of op).third [] ≡ Ok operands.Absent
    → instruction_of op (form_of op) (32 ∷ a ++ 44 ∷ 32 ∷ b) ≡ Ok (bodies.Code (pattern_of op x y operands.Absent))
unfolding instruction_of
two_operands op a b x y pa pb due first second third =
    let ps : pieces 44 (32 ∷ a ++ 44 ∷ 32 ∷ b) ≡ (32 ∷ a) ∷ (32 ∷ b) ∷ [] = cut_piece a (32 ∷ b) pa ∙ ap (λ (r : List (List ℕ)). (32 ∷ a) ∷ r) (one_piece b pb) in
    rw (texts_of a (44 ∷ 32 ∷ b) pa, ps, due, not_empty a ((32 ∷ b) ∷ []) pa, not_empty b [] pb, first, second, third) refl

three_operands : (op : Mnemonic) (a b c : List ℕ) (x y z : Operand) → IsSolid a → IsSolid b → IsSolid c → due_count (form_of op) ≡ 3
    → operand_of (form_of op).first (32 ∷ a) ≡ Ok x → operand_of (form_of op).second (32 ∷ b) ≡ Ok y → operand_of (form_of op).third (32 ∷ c) ≡ Ok z
    → instruction_of op (form_of op) (32 ∷ a ++ 44 ∷ 32 ∷ (b ++ 44 ∷ 32 ∷ c)) ≡ Ok (bodies.Code (pattern_of op x y z))
unfolding instruction_of
three_operands op a b c x y z pa pb pc due first second third =
    let ps : pieces 44 (32 ∷ a ++ 44 ∷ 32 ∷ (b ++ 44 ∷ 32 ∷ c)) ≡ (32 ∷ a) ∷ (32 ∷ b) ∷ (32 ∷ c) ∷ [] =
    cut_piece a (32 ∷ (b ++ 44 ∷ 32 ∷ c)) pa ∙ ap (λ (r : List (List ℕ)). (32 ∷ a) ∷ r) (cut_piece b (32 ∷ c) pb ∙ ap (λ (r : List (List ℕ)). (32 ∷ b) ∷ r) (one_piece c pc)) in
    rw (texts_of a (44 ∷ 32 ∷ (b ++ 44 ∷ 32 ∷ c)) pa, ps, due, not_empty a ((32 ∷ b) ∷ (32 ∷ c) ∷ []) pa, not_empty b ((32 ∷ c) ∷ []) pb, not_empty c [] pc, first, second, third) refl

blank_text : (s : List ℕ) → IsText s → IsText (32 ∷ s)
blank_text s p = rw p refl

comma_text : (s : List ℕ) → IsText s → IsText (44 ∷ 32 ∷ s)
comma_text s p = rw p refl

two_text : (word a b : List ℕ) → IsText word → IsSolid a → IsSolid b → IsText (two word a b)
two_text word a b p pa pb =
    text_append (one word a) (44 ∷ 32 ∷ b) (text_append word (32 ∷ a) p (blank_text a (solid_text a pa.solid))) (comma_text b (solid_text b pb.solid))

three_text : (word a b c : List ℕ) → IsText word → IsSolid a → IsSolid b → IsSolid c → IsText (three word a b c)
three_text word a b c p pa pb pc = text_append (two word a b) (44 ∷ 32 ∷ c) (two_text word a b p pa pb) (comma_text c (solid_text c pc.solid))

-- a word alone
pub one_as : (word : List ℕ) (op : Mnemonic) (i : Instr) → IsText word → body_of word ≡ Ok (bodies.Code (pattern_of op operands.Absent operands.Absent operands.Absent))
    → size_by op (pattern_of op operands.Absent operands.Absent operands.Absent) ≡ 1
    → ((labels : Table) (site : Site) → coded labels site op operands.Absent operands.Absent operands.Absent ≡ Ok (One i)) → ReadsAs word i
one_as word op i text says size codes = record {
  pattern = pattern_of op operands.Absent operands.Absent operands.Absent;
  plain = text;
  says = line_reads word _ text says;
  size = size;
  codes = codes;
}

-- a word and two operands
pub two_as : {word : List ℕ} {op : Mnemonic} → IsWordOf word op → (a b : List ℕ) (x y : Operand) (i : Instr) → IsSolid a → IsSolid b → due_count (form_of op) ≡ 2
    → operand_of (form_of op).first (32 ∷ a) ≡ Ok x → operand_of (form_of op).second (32 ∷ b) ≡ Ok y → operand_of (form_of op).third [] ≡ Ok operands.Absent
    → size_by op (pattern_of op x y operands.Absent) ≡ 1 → ((labels : Table) (site : Site) → coded labels site op x y operands.Absent ≡ Ok (One i))
    → ReadsAs (two word a b) i
two_as {word} {op} known a b x y i pa pb due first second third size codes = record {
  pattern = pattern_of op x y operands.Absent;
  plain = two_text word a b known.text pa pb;
  says = line_reads (two word a b) _
      (two_text word a b known.text pa pb)
      (ap body_of (append_assoc word (32 ∷ a) (44 ∷ 32 ∷ b)) ∙ known.begins (a ++ 44 ∷ 32 ∷ b) ∙ two_operands op a b x y pa pb due first second third);
  size = size;
  codes = codes;
}

-- a word and three operands
pub three_as : {word : List ℕ} {op : Mnemonic} → IsWordOf word op → (a b c : List ℕ) (x y z : Operand) (i : Instr) → IsSolid a → IsSolid b → IsSolid c → due_count (form_of op) ≡ 3
    → operand_of (form_of op).first (32 ∷ a) ≡ Ok x → operand_of (form_of op).second (32 ∷ b) ≡ Ok y → operand_of (form_of op).third (32 ∷ c) ≡ Ok z
    → size_by op (pattern_of op x y z) ≡ 1 → ((labels : Table) (site : Site) → coded labels site op x y z ≡ Ok (One i))
    → ReadsAs (three word a b c) i
three_as {word} {op} known a b c x y z i pa pb pc due first second third size codes = record {
  pattern = pattern_of op x y z;
  plain = three_text word a b c known.text pa pb pc;
  says = line_reads (three word a b c) _
      (three_text word a b c known.text pa pb pc)
      (ap body_of (append_assoc (one word a) (44 ∷ 32 ∷ b) (44 ∷ 32 ∷ c) ∙ append_assoc word (32 ∷ a) (44 ∷ 32 ∷ (b ++ 44 ∷ 32 ∷ c)))
      ∙ known.begins (a ++ 44 ∷ 32 ∷ (b ++ 44 ∷ 32 ∷ c)) ∙ three_operands op a b c x y z pa pb pc due first second third);
  size = size;
  codes = codes;
}

-- a number in its field
pub within_fits : (half : ℕ) (z : ℤ) → IsInRange half z → is_in_range half z ≡ true
within_fits half (pos n) lt = grind (arith, nat_tests)
within_fits half (negsuc n) lt = grind (arith, nat_tests)

pub below_fits : (n bound : ℕ) → n < bound → nat_lt n bound ≡ true
below_fits n bound lt = grind (arith, nat_tests)

pub even_fits : (half : ℕ) (z : ℤ) → IsEvenWithin half z → (is_in_range half z && (field_of half z % 2 == 0)) ≡ true
even_fits half z p = let e : (field_of half z % 2 == 0) ≡ true = rw p.1 refl in rw (within_fits half z p.0, e) refl
