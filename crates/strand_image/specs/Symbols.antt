-- The symbols of an image: their order, their rules, and their bytes.
use Rattle.std.specs.Prelude.{◌≡◌, ℕ, zero, suc, ◌+◌, ◌<◌, ◌≤◌, nat_lt, nat_le, ◌==◌, Bool, false, ◌&&◌, not, IsTrue, List, [], ◌∷◌, ◌++◌, length, take, drop, slice_index, slice_index_or, Option, Some, None, if◌then◌else◌}
use Rattle.std.specs.List.{AllPairs, flat_map, list_all}
use Rattle.std.specs.Str.{bytes_eq}
use Rattle.std.specs.declared.cmp.Ordering.{Ordering}
use Rattle.std.specs.declared.cmp.Ordering.TheVariants.{Less}
use Rattle.std.specs.Ordering.{nat_cmp, ordering_then, is_gt, is_lt}
use Rattle.std.specs.Cmp.Lexicographic.{slice_cmp}
use Rattle.strand_base.specs.LittleEndian.{u32_of, bytes_of_u32}
use Rattle.strand_base.specs.Name.{is_label}
use Rattle.strand_image.specs.ImageSeen.{ImageSeen}
use Rattle.strand_image.specs.declared.symbol.Region.{Region}
use Rattle.strand_image.specs.declared.symbol.Region.TheVariants.{Code, Volatile, Persistent}
use Rattle.strand_image.specs.declared.symbol.Symbol.{Symbol}
use Rattle.strand_image.specs.declared.checking.SectionSizes.{SectionSizes}

-- how many words a section has
abbrev pub words_in : SectionSizes → Region → ℕ
words_in sizes Code = sizes.code
words_in sizes Volatile = sizes.volatile
words_in sizes Persistent = sizes.persistent

abbrev pub sizes_of : ImageSeen → SectionSizes
sizes_of p = record { code = length p.code; volatile = length p.volatile; persistent = length p.persistent }

-- the number of a section
abbrev pub region_number : Region → ℕ
region_number Code = 0
region_number Volatile = 1
region_number Persistent = 2

-- Symbols stand by section, then by place, then by the bytes of the name.
abbrev pub symbol_cmp : Symbol → Symbol → Ordering
symbol_cmp a b = ordering_then (nat_cmp (region_number a.region) (region_number b.region)) (ordering_then (nat_cmp a.place b.place) (slice_cmp nat_cmp a.name b.name))

-- symbols in this order
abbrev pub placed_in : Symbol → List Symbol → List Symbol
placed_in s [] = s ∷ []
placed_in s (t ∷ ts) = if is_gt (symbol_cmp s t) then t ∷ placed_in s ts else s ∷ t ∷ ts

abbrev pub in_order : List Symbol → List Symbol
in_order [] = []
in_order (s ∷ ss) = placed_in s (in_order ss)

-- whether one symbol may stand before another
abbrev pub may_precede : Symbol → Symbol → Bool
may_precede a b = is_lt (symbol_cmp a b) && not (bytes_eq a.name b.name)

-- the rules on a symbol behind others
abbrev pub keeps_rules : SectionSizes → List Symbol → Symbol → Bool
keeps_rules sizes before s = nat_le s.place (words_in sizes s.region) && list_all (λ b. may_precede b s) before

-- how many symbols stand before the first that breaks a rule
abbrev pub count_before_fault : SectionSizes → List Symbol → List Symbol → ℕ
count_before_fault sizes before [] = length before
count_before_fault sizes before (s ∷ ss) = if keeps_rules sizes before s then count_before_fault sizes (before ++ s ∷ []) ss else length before

-- Each symbol has a label, and stands in its section or at its end. They ascend, and no two have one name.
pub record AreSymbols (sizes : SectionSizes) (ss : List Symbol) : Type 0 where
  pub labels : (k : ℕ) (d : Symbol) → k < length ss → IsTrue (is_label (slice_index_or ss k d).name)
  pub places : (k : ℕ) (d : Symbol) → k < length ss → (slice_index_or ss k d).place ≤ words_in sizes (slice_index_or ss k d).region
  pub ascend : AllPairs (λ a b. symbol_cmp a b ≡ Less) ss
  pub differ : AllPairs (λ a b. bytes_eq a.name b.name ≡ false) ss

-- the bytes of a symbol: its section, its place, and its name behind its length
abbrev pub bytes_of_symbol : Symbol → List ℕ
bytes_of_symbol s = region_number s.region ∷ (bytes_of_u32 s.place ++ length s.name ∷ s.name)

unfoldable pub bytes_of_symbols : List Symbol → List ℕ
bytes_of_symbols ss = flat_map bytes_of_symbol ss

-- the section with a number
abbrev pub region_with_number : ℕ → Option Region
region_with_number b = if b == 0 then Some Code else (if b == 1 then Some Volatile else (if b == 2 then Some Persistent else None))

-- the symbol that bytes begin with, and the bytes behind it
abbrev pub named_symbol : Option Region → ℕ → List ℕ → List ℕ → Option (Symbol × List ℕ)
named_symbol None place name rest = None
named_symbol (Some region) place name rest = if is_label name then Some (record { region = region; place = place; name = name }, rest) else None

unfoldable pub symbol_of : List ℕ → Option (Symbol × List ℕ)
symbol_of bytes =
    let size = slice_index bytes 5 in
    if nat_lt (length bytes) (6 + size) then None else named_symbol (region_with_number (slice_index bytes 0)) (u32_of (drop 1 bytes)) (take size (drop 6 bytes)) (drop (6 + size) bytes)

-- the symbols that bytes begin with, at most so many, and the bytes behind them
abbrev pub onto_spelt : Option (Symbol × List ℕ) → List ℕ → (List ℕ → List Symbol × List ℕ) → List Symbol × List ℕ
onto_spelt None bytes more = ([], bytes)
onto_spelt (Some (s, rest)) bytes more = (s ∷ (more rest).0, (more rest).1)

unfoldable pub spelt_symbols : ℕ → List ℕ → List Symbol × List ℕ
spelt_symbols zero bytes = ([], bytes)
spelt_symbols (suc count) bytes = onto_spelt (symbol_of bytes) bytes (λ rest. spelt_symbols count rest)

-- So many symbols are spelt, and nothing is behind them.
abbrev pub is_whole : ℕ → List Symbol × List ℕ → Bool
is_whole count spelt = (length spelt.0 == count) && (length spelt.1 == 0)
