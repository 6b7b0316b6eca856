use Rattle.std.proofs.Common.{ℕ, ◌<◌, drop, get_or}
use Rattle.strand_base.proofs.AppendsFront.{SoFar}
use Rattle.strand_image.specs.declared.symbol.Region.TheVariants.{Code}
use Rattle.strand_asm.specs.Listing.{IsDecoded, code_texts, lines_text, names_at}
use Rattle.strand_asm.proofs.listing.put_code.Given as goal

abbrev pub invariant-loop-place : goal.invariant-loop-place
invariant-loop-place l = record {
  told : SoFar (lines_text (code_texts (names_at l.symbols Code) 0 l.code)) (lines_text (code_texts (names_at l.symbols Code) l.place (drop l.place l.code))) l.fn.into.items l.into.items;
  decoded : (k : ℕ) → k < l.place → IsDecoded (get_or l.code k 0);
}
