-- The listing of an image: its entries, and then its three sections.
use Rattle.std.specs.Prelude.{◌≡◌, ℕ, zero, suc, ◌<◌, ◌+◌, ◌==◌, ◌&&◌, ◌||◌, nat_lt, Bool, List, [], ◌∷◌, ◌++◌, length, map, drop, slice_index, Option, Some, None, Result, IfSome}
use Rattle.std.specs.Fmt.{decimal}
use Rattle.std.specs.List.{AllPairs, filter, flat_map}
use Rattle.std.specs.Option.{option_and_then}
use Rattle.std.specs.declared.cmp.Ordering.TheVariants.{Less}
use lib.Chars.{codes}
use Rattle.strand_base.specs.Hexadecimal.{hex16}
use Rattle.strand_base.specs.Puts.{Puts}
use Rattle.strand_isa.specs.Decode.{instr_of}
use Rattle.strand_isa.specs.Print.{instr_text}
use Rattle.strand_isa.specs.Word.{IsValid, instr_word}
use Rattle.strand_image.specs.ImageSeen.{ImageSeen}
use Rattle.strand_image.specs.Symbols.{region_number, symbol_cmp}
use Rattle.strand_image.specs.declared.symbol.Region.{Region}
use Rattle.strand_image.specs.declared.symbol.Region.TheVariants.{Code, Volatile, Persistent}
use Rattle.strand_image.specs.declared.symbol.Symbol.{Symbol}

abbrev pub entry_text : ℕ → List ℕ
entry_text n = codes ".entry " ++ decimal n

-- a number in its last hexadecimal digits, of sixteen from a digit on
abbrev pub word_text : ℕ → ℕ → List ℕ
word_text from n = codes ".word 0x" ++ drop from (hex16 n)

-- a code word is an instruction where one has it and has a text, else a number
abbrev pub text_or : ℕ → Option (List ℕ) → List ℕ
text_or w (Some text) = text
text_or w None = word_text 8 w

abbrev pub code_text : ℕ → List ℕ
code_text w = text_or w (option_and_then instr_text (instr_of w))

-- the lines of the symbols at a place of a section
abbrev pub stands_at : Region → ℕ → Symbol → Bool
stands_at region at s = (region_number s.region == region_number region) && (s.place == at)

-- Symbols ascend. One may stand before a place of a section.
abbrev pub Ascend : List Symbol → Type 0
Ascend symbols = AllPairs (λ a b. symbol_cmp a b ≡ Less) symbols

abbrev pub is_before : Region → ℕ → Symbol → Bool
is_before region at s = nat_lt (region_number s.region) (region_number region) || ((region_number s.region == region_number region) && nat_lt s.place at)

abbrev pub name_text : Symbol → List ℕ
name_text s = s.name ++ codes ":"

abbrev pub names_at : List Symbol → Region → ℕ → List (List ℕ)
names_at symbols region at = map name_text (filter (stands_at region at) symbols)

abbrev pub name_texts : List Symbol → List (List ℕ)
name_texts symbols = map name_text symbols

-- Before each code word stand the names of its place, and behind the last one those of the end.
abbrev pub named_word_lines : List (List ℕ) → ℕ → List (List ℕ)
named_word_lines names w = names ++ code_text w ∷ []

abbrev pub code_texts : (ℕ → List (List ℕ)) → ℕ → List ℕ → List (List ℕ)
code_texts names at [] = names at
code_texts names at (w ∷ ws) = names at ++ code_text w ∷ code_texts names (at + 1) ws

-- A longest run of words of 0 is one '.space', and each other word is a number.
abbrev pub space_text : ℕ → List (List ℕ)
space_text zero = []
space_text (suc n) = (codes ".space " ++ decimal (suc n)) ∷ []

-- Names end a run: the words of 0 that stand before them, and the names; and how many words of 0 are then left to tell.
abbrev pub names_lines : ℕ → List (List ℕ) → List (List ℕ)
names_lines count [] = []
names_lines count (n ∷ ns) = space_text count ++ n ∷ ns

abbrev pub past_names : ℕ → List (List ℕ) → ℕ
past_names count [] = count
past_names count (n ∷ ns) = 0

-- So does a word that is not 0.
abbrev pub word_lines : ℕ → ℕ → List (List ℕ)
word_lines count zero = []
word_lines count (suc w) = space_text count ++ word_text 0 (suc w) ∷ []

abbrev pub past_word : ℕ → ℕ → ℕ
past_word count zero = count + 1
past_word count (suc w) = 0

-- a word behind the names of its place
abbrev pub named_data_lines : ℕ → List (List ℕ) → ℕ → List (List ℕ)
named_data_lines count names w = names_lines count names ++ word_lines (past_names count names) w

abbrev pub past_named_data : ℕ → List (List ℕ) → ℕ → ℕ
past_named_data count names w = past_word (past_names count names) w

-- the lines of words that follow so many words of 0
abbrev pub data_texts : (ℕ → List (List ℕ)) → ℕ → ℕ → List ℕ → List (List ℕ)
data_texts names at count [] = space_text count ++ names at
data_texts names at count (w ∷ ws) =
    let left = past_names count (names at) in
    names_lines count (names at) ++ (word_lines left w ++ data_texts names (at + 1) (past_word left w) ws)

unfoldable pub entry_lines : List ℕ → List (List ℕ)
entry_lines entries = map entry_text entries

unfoldable pub code_lines : (ℕ → List (List ℕ)) → List ℕ → List (List ℕ)
code_lines names code = code_texts names 0 code

unfoldable pub data_lines : (ℕ → List (List ℕ)) → List ℕ → List (List ℕ)
data_lines names words = data_texts names 0 0 words

abbrev pub listing_lines : ImageSeen → List (List ℕ)
listing_lines p =
    entry_lines p.entries ++ (codes ".code" ∷ code_lines (names_at p.symbols Code) p.code)
    ++ (codes ".volatile" ∷ data_lines (names_at p.symbols Volatile) p.volatile) ++ (codes ".persist" ∷ data_lines (names_at p.symbols Persistent) p.persistent)

-- lines, each with its end
unfoldable pub lines_text : List (List ℕ) → List ℕ
lines_text ls = flat_map (λ l. l ++ 10 ∷ []) ls

-- the parts of a listing's text
abbrev pub code_section : List Symbol → List ℕ → List ℕ
code_section symbols code = codes ".code\n" ++ lines_text (code_lines (names_at symbols Code) code)

abbrev pub data_section : List ℕ → List Symbol → Region → List ℕ → List ℕ
data_section front symbols region words = front ++ lines_text (data_lines (names_at symbols region) words)

abbrev pub front_text : ImageSeen → List ℕ
front_text p = lines_text (entry_lines p.entries) ++ code_section p.symbols p.code

abbrev pub sections_text : ImageSeen → List ℕ
sections_text p = data_section (codes ".volatile\n") p.symbols Volatile p.volatile ++ data_section (codes ".persist\n") p.symbols Persistent p.persistent

-- A call puts lines, or a front of their text.
abbrev pub PutsLines : {T E : Type 0} → Result T E → List (List ℕ) → List ℕ → List ℕ → Type 0
PutsLines result lines old new = Puts result (lines_text lines) old new

unfoldable pub listing : ImageSeen → List ℕ
listing p = lines_text (listing_lines p)

-- a word that an instruction has is that instruction's word
abbrev pub IsDecoded : ℕ → Type 0
IsDecoded w = IfSome (instr_of w) (λ i. IsValid i × (instr_word i ≡ w))

abbrev pub AreDecoded : List ℕ → Type 0
AreDecoded code = (k : ℕ) → k < length code → IsDecoded (slice_index code k)
