-- The image of an assembler text, or its first fault.
use Rattle.std.specs.Prelude.{◌≡◌, ℕ, ◌<◌, ◌^◌, IsTrue, false, slice_index_or, List, [], ◌∷◌, length, map, Result, Ok, Err, ◌==◌, if◌then◌else◌}
use Rattle.std.specs.List.{AllPairs}
use Rattle.std.specs.Str.{bytes_eq}
use Rattle.strand_base.specs.Name.{is_label}
use Rattle.strand_image.specs.ImageSeen.{ImageSeen}
use Rattle.strand_image.specs.Limits.{is_within}
use Rattle.strand_image.specs.Symbols.{in_order}
use Rattle.strand_image.specs.declared.symbol.Region.{Region}
use Rattle.strand_image.specs.declared.symbol.Region.TheVariants as regions
use Rattle.strand_image.specs.declared.symbol.Symbol.{Symbol}
use Rattle.strand_asm_lines.specs.declared.line.Section.{Section}
use Rattle.strand_asm_lines.specs.declared.line.Section.TheVariants as sections
use Rattle.strand_asm.specs.declared.place.Place.{Place}
use Rattle.strand_image.specs.declared.quantity.Quantity.{Quantity}
use Rattle.strand_image.specs.declared.quantity.Quantity.TheVariants.{Cores, Code, Volatile, Persistent, Symbols}
use Rattle.strand_asm.specs.Layout.{◌>>=◌, layout_of}
use Rattle.strand_asm.specs.Draft.{draft_of}
use Rattle.strand_asm.specs.declared.layout.Layout.{Layout}
use Rattle.strand_asm.specs.declared.fault.AsmFault.{AsmFault}
use Rattle.strand_asm.specs.declared.fault.AsmFault.TheVariants.{Limit}

abbrev pub limit_check : Quantity → ℕ → Result (Unit {0}) AsmFault
limit_check what n = if is_within what n then Ok tt else Err (Limit what n)

-- Without '.entry' there is one core.
abbrev pub cores_of_entries : ℕ → ℕ
cores_of_entries entries = if entries == 0 then 1 else entries

unfoldable pub limited : Layout → Result (Unit {0}) AsmFault
limited l = do
  a ← limit_check Cores (cores_of_entries l.cores)
  b ← limit_check Code l.code
  c ← limit_check Volatile l.volatile
  d ← limit_check Persistent l.persistent
  limit_check Symbols (length l.labels)

-- It begins at the first code word.
abbrev pub entered : List ℕ → List ℕ
entered [] = 0 ∷ []
entered (e ∷ es) = e ∷ es

-- Each label is a symbol, and they stand in the image's order.
abbrev pub region_of : Section → Region
region_of sections.Code = regions.Code
region_of sections.Volatile = regions.Volatile
region_of sections.Persist = regions.Persistent

abbrev pub label_symbol : List ℕ × Place → Symbol
label_symbol label = record { region = region_of label.1.section; place = label.1.index; name = label.0 }

abbrev pub label_symbols : List (List ℕ × Place) → List Symbol
label_symbols labels = in_order (map label_symbol labels)

-- labels that are symbols: each name and each place is one that a symbol may have, and no two have one name
pub record AreLabels (labels : List (List ℕ × Place)) : Type 0 where
  pub names : (k : ℕ) (d : List ℕ × Place) → k < length labels → IsTrue (is_label (slice_index_or labels k d).0)
  pub places : (k : ℕ) (d : List ℕ × Place) → k < length labels → (slice_index_or labels k d).1.index < 2 ^ 32
  pub differ : AllPairs (λ a b. bytes_eq a.0 b.0 ≡ false) labels

-- the image of a draft
abbrev pub with_symbols : List Symbol → ImageSeen → ImageSeen
with_symbols symbols p = record p { entries = entered p.entries; symbols = symbols }

-- First the lines in order, then the limits, then the numbers and names in order.
unfoldable pub assembled : List ℕ → Result ImageSeen AsmFault
assembled text = do
  layout ← layout_of text
  all ← limited layout
  draft ← draft_of layout text
  Ok (with_symbols (label_symbols layout.labels) draft.parts)
