-- Serves clause again of list: the line of a code word says that word.
use Rattle.std.proofs.Common.{◌≡◌, ℕ, ◌*◌, ◌^◌, ◌<◌, true, List, Option, Some, None, Ok, refl, ap, arith}
use Rattle.std.specs.Prelude.{IfSome, pos}
use Rattle.std.specs.Option.{option_and_then}
use Rattle.strand_isa.specs.Decode.{instr_of}
use Rattle.strand_isa.specs.Print.{instr_text}
use Rattle.strand_isa.specs.Word.{IsValid, instr_word}
use Rattle.strand_isa.specs.declared.instr.Instr.{Instr}
use Rattle.strand_asm_lines.specs.declared.line.Section.TheVariants as sections
use Rattle.strand_asm_lines.specs.declared.line.Body.{Body}
use Rattle.strand_asm_lines.specs.declared.line.Body.TheVariants as bodies
use Rattle.strand_asm.specs.declared.layout.Layout.{Layout}
use Rattle.strand_asm.specs.declared.place.Site.{Site}
use Rattle.strand_asm.specs.declared.addition.Addition.TheVariants as additions
use Rattle.strand_asm.specs.Layout.{layout_after, is_placed, with_more_words}
use Rattle.strand_asm.specs.Draft.{addition, word_added}
use Rattle.strand_asm.specs.Listing.{IsDecoded, code_text, text_or, word_text}
use Rattle.strand_asm.proofs.ListAgain.Forms.{ReadsAs, below_fits}
use Rattle.strand_asm.proofs.ListAgain.Instructions.{instr_reads}
use Rattle.strand_asm.proofs.ListAgain.Directives.{Printed, word_line}

pub record IsCodeLine (text : List ℕ) (w : ℕ) : Type 0 where
  pub body : Body
  pub line : Printed text body
  pub placed : is_placed sections.Code body ≡ true
  pub grows : (l : Layout) → l.section ≡ sections.Code → layout_after l body ≡ with_more_words sections.Code 1 l
  pub adds : (whole : Layout) (site : Site) → addition whole site sections.Code body ≡ Ok (additions.Code w)

from_number : (w : ℕ) → w < 2 ^ 32 → IsCodeLine (word_text 8 w) w
unfolding addition word_added
from_number w fits = record {
  body = bodies.Word (pos w);
  line = word_line 8 w (omega arith) (omega (arith, fits)) (omega (arith, fits));
  placed = refl;
  grows = λ l here. rw here refl;
  adds = λ whole site. rw (below_fits w (2 * 2147483648) (omega (arith, fits))) refl;
}

from_instr : (w : ℕ) (i : Instr) (text : List ℕ) → instr_word i ≡ w → ReadsAs text i → IsCodeLine text w
unfolding addition
from_instr w i text e h = record {
  body = bodies.Code h.pattern;
  line = record { plain = h.plain; says = h.says };
  placed = refl;
  grows = λ l here. rw h.size refl;
  adds = λ whole site. rw (h.codes whole.labels site) (ap (λ (v : ℕ). Ok (additions.Code v)) e);
}

chosen : (w : ℕ) (i : Instr) (t : Option (List ℕ)) → instr_text i ≡ t → w < 2 ^ 32 → IsValid i × (instr_word i ≡ w) → IsCodeLine (text_or w t) w
chosen w i None e fits h = from_number w fits
chosen w i (Some text) e fits h = from_instr w i text h.1 (instr_reads i text h.0 e)

choose : (w : ℕ) (o : Option Instr) → w < 2 ^ 32 → IfSome o (λ i. IsValid i × (instr_word i ≡ w)) → IsCodeLine (text_or w (option_and_then instr_text o)) w
choose w None fits h = from_number w fits
choose w (Some i) fits h = chosen w i (instr_text i) refl fits h

pub code_line_of : (w : ℕ) → w < 2 ^ 32 → IsDecoded w → IsCodeLine (code_text w) w
code_line_of w fits h = choose w (instr_of w) fits h
