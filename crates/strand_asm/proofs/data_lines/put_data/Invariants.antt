use Rattle.std.proofs.Common.{◌≤◌, drop}
use Rattle.strand_base.proofs.AppendsFront.{SoFar}
use Rattle.strand_asm.specs.Listing.{data_texts, lines_text, names_at}
use Rattle.strand_asm.proofs.data_lines.put_data.Given as goal

abbrev pub invariant-loop-place : goal.invariant-loop-place
invariant-loop-place l = record {
  few : l.zeros ≤ l.place;
  told : SoFar (lines_text (data_texts (names_at l.symbols l.region) 0 0 l.words)) (lines_text (data_texts (names_at l.symbols l.region) l.place l.zeros (drop l.place l.words))) l.fn.into.items l.into.items;
}
