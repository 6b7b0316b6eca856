-- What the parts of the check of symbols find: a symbol that is out of its place, and one whose name an earlier one has.
use Rattle.std.specs.Prelude.{◌≡◌, ℕ, ◌-◌, ◌<◌, ◌≤◌, Bool, true, false, ◌&&◌, ◌||◌, ◌==◌, IsTrue, nat_le, List, [], length, map, slice_index, slice_index_or, min, if◌then◌else◌}
use Rattle.std.specs.Str.{bytes_eq}
use Rattle.std.specs.declared.cmp.Ordering.{Ordering}
use Rattle.std.specs.declared.cmp.Ordering.TheVariants.{Less}
use Rattle.std.specs.Ordering.{nat_cmp, ordering_then, is_lt}
use Rattle.std.specs.Cmp.Lexicographic.{slice_cmp}
use Rattle.strand_base.specs.Name.{is_label}
use Rattle.strand_image.specs.Symbols.{words_in, symbol_cmp}
use Rattle.strand_image.specs.declared.checking.SectionSizes.{SectionSizes}
use Rattle.strand_image.specs.declared.symbol.Symbol.{Symbol}

-- A symbol stands in its section, and behind the one before it. `d` stands for what is past the list's end.
abbrev pub stands_in_turn : SectionSizes → List Symbol → ℕ → Symbol → Bool
stands_in_turn sizes ss k d = let s = slice_index_or ss k d in nat_le s.place (words_in sizes s.region) && ((k == 0) || is_lt (symbol_cmp (slice_index_or ss (k - 1) d) s))

-- Each of the first symbols is placed and has a label.
pub record StandInTurn (sizes : SectionSizes) (ss : List Symbol) (n : ℕ) : Type 0 where
  pub bound : n ≤ length ss
  pub placed : (k : ℕ) (d : Symbol) → k < n → stands_in_turn sizes ss k d ≡ true
  pub labels : (k : ℕ) (d : Symbol) → k < n → IsTrue (is_label (slice_index_or ss k d).name)
  pub stops : (d : Symbol) → n < length ss → stands_in_turn sizes ss n d ≡ false

abbrev pub names_of : List Symbol → List (List ℕ)
names_of ss = map (λ s. s.name) ss

-- the name with a number, and none past the last
abbrev pub name_at : List (List ℕ) → ℕ → List ℕ
name_at names k = slice_index_or names k []

-- numbers of names, by the names and then by the numbers
abbrev pub by_name : List (List ℕ) → ℕ → ℕ → Ordering
by_name names a b = ordering_then (slice_cmp nat_cmp (name_at names a) (name_at names b)) (nat_cmp a b)

-- the numbers of all names, in that order
pub record IsByName (names : List (List ℕ)) (order : List ℕ) : Type 0 where
  pub long : length order ≡ length names
  pub within : (p : ℕ) → p < length order → slice_index order p < length names
  pub onto : (k : ℕ) → k < length names → (p : ℕ) × (p < length order) × (slice_index order p ≡ k)
  pub ascends : (p q : ℕ) → p < q → q < length order → by_name names (slice_index order p) (slice_index order q) ≡ Less

-- the least of numbers so far, and the one at a place where it has the name of the one before it
abbrev pub lowered : List (List ℕ) → List ℕ → ℕ → ℕ → ℕ
lowered names order k least = if bytes_eq (name_at names (slice_index order (k - 1))) (name_at names (slice_index order k)) then min least (slice_index order k) else least

-- The first names differ, and the next one is among them.
pub record AreDifferent (names : List (List ℕ)) (n : ℕ) : Type 0 where
  pub bound : n ≤ length names
  pub differ : (i j : ℕ) → i < j → j < n → bytes_eq (name_at names i) (name_at names j) ≡ false
  pub repeats : n < length names → (j : ℕ) × (j < n) × (name_at names j ≡ name_at names n)
