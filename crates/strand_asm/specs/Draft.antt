-- The second pass over a text: what each line adds to the image.
use Rattle.std.specs.Prelude.{ℕ, ℤ, pos, List, [], ◌∷◌, ◌++◌, length, replicate, Result, Ok}
use Rattle.strand_base.specs.Text.{lines_of}
use Rattle.strand_isa.specs.Word.{instr_word}
use Rattle.strand_image.specs.ImageSeen.{ImageSeen, image_seen}
use Rattle.strand_asm_lines.specs.declared.line.Section.{Section}
use Rattle.strand_asm_lines.specs.declared.line.Section.TheVariants as sections
use Rattle.strand_asm_lines.specs.declared.line.Operand.{Operand}
use Rattle.strand_asm_lines.specs.declared.line.Operand.TheVariants as operands
use Rattle.strand_asm_lines.specs.declared.line.Body.{Body}
use Rattle.strand_asm_lines.specs.declared.line.Body.TheVariants as bodies
use Rattle.strand_asm_lines.specs.declared.line.Line.{Line}
use Rattle.strand_asm.specs.Operands.{number, natural_below, wrapped}
use Rattle.strand_asm.specs.Layout.{◌>>=◌, over_lines}
use Rattle.strand_asm.specs.Encode.{fitted, word_named, pattern_coded}
use Rattle.strand_asm.specs.DraftSeen.{DraftSeen}
use Rattle.strand_asm.specs.declared.coded.Coded.{Coded}
use Rattle.strand_asm.specs.declared.coded.Coded.TheVariants.{One, Two}
use Rattle.strand_asm.specs.declared.addition.Addition.{Addition}
use Rattle.strand_asm.specs.declared.addition.Addition.TheVariants.{Nothing, Section as Turn, Entry, Code, Pair, Data, Zeros}
use Rattle.strand_asm.specs.declared.layout.Layout.{Layout}
use Rattle.strand_asm.specs.declared.place.Site.{Site}
use Rattle.strand_asm.specs.declared.fault.AsmFault.{AsmFault}

-- the number of an entry: what is written, or the code word that a label marks
abbrev pub entry_number : Layout → ℕ → Operand → Result ℤ AsmFault
entry_number layout line (operands.Label name) = do
  k ← word_named layout.labels line name
  Ok (pos k)
entry_number layout line target = Ok (number target)

unfoldable pub entry_added : Layout → ℕ → Operand → Result Addition AsmFault
entry_added layout line target = do
  z ← entry_number layout line target
  n ← fitted line z (natural_below layout.code z)
  Ok (Entry n)

unfoldable pub word_added : ℕ → Section → ℤ → Result Addition AsmFault
word_added line sections.Code z = do
  n ← fitted line z (wrapped 2147483648 z)
  Ok (Code n)
word_added line _ z = do
  n ← fitted line z (wrapped 9223372036854775808 z)
  Ok (Data n)

abbrev pub coded_words : Coded → Addition
coded_words (One i) = Code (instr_word i)
coded_words (Two i j) = Pair (instr_word i) (instr_word j)

-- what a line adds
unfoldable pub addition : Layout → Site → Section → Body → Result Addition AsmFault
addition layout site section bodies.Empty = Ok Nothing
addition layout site section (bodies.Section s) = Ok (Turn s)
addition layout site section (bodies.Entry target) = entry_added layout site.line target
addition layout site section (bodies.Word z) = word_added site.line section z
addition layout site section (bodies.Space n) = Ok (Zeros n)
addition layout site section (bodies.Code p) = do
  c ← pattern_coded layout.labels site p
  Ok (coded_words c)

-- data words at the end of a section; the code has none
abbrev pub with_data : Section → List ℕ → ImageSeen → ImageSeen
with_data sections.Code ws p = p
with_data sections.Volatile ws p = record p { volatile = p.volatile ++ ws }
with_data sections.Persist ws p = record p { persistent = p.persistent ++ ws }

unfoldable pub added : DraftSeen → Addition → DraftSeen
added d Nothing = d
added d (Turn s) = record d { section = s }
added d (Entry n) = record d { parts = record d.parts { entries = d.parts.entries ++ n ∷ [] } }
added d (Code w) = record d { parts = record d.parts { code = d.parts.code ++ w ∷ [] } }
added d (Pair v w) = record d { parts = record d.parts { code = d.parts.code ++ v ∷ w ∷ [] } }
added d (Data w) = record d { parts = with_data d.section (w ∷ []) d.parts }
added d (Zeros n) = record d { parts = with_data d.section (replicate n 0) d.parts }

unfoldable pub drafted : Layout → ℕ → DraftSeen → Line → Result DraftSeen AsmFault
drafted layout n d line = do
  more ← addition layout (record { line = n; at = length d.parts.code }) d.section line.body
  Ok (added d more)

unfoldable pub blank : DraftSeen
blank = record { section = sections.Code; parts = image_seen [] [] [] [] [] }

unfoldable pub draft_of : Layout → List ℕ → Result DraftSeen AsmFault
draft_of layout text = over_lines (drafted layout) 1 blank (lines_of text)
