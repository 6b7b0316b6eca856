-- The bytes of a line: pieces between separators, blanks and words.
use Rattle.std.specs.Prelude.{ℕ, not, Bool, true, false, List, [], ◌∷◌, drop, Option, Some, None, ◌==◌, ◌||◌, if◌then◌else◌, slice_index_or}
use Rattle.std.specs.List.{position_or_len, list_any}
use Rattle.std.specs.Char.{is_ascii_graphic}
use Rattle.strand_base.specs.Text.{onto_first, is_blank, words_of}

-- a byte that may stand outside a comment: a space, a tab, or a character of ASCII that shows
abbrev pub is_plain : ℕ → Bool
is_plain b = is_blank b || is_ascii_graphic b

-- the pieces between the separators, one more than there are separators
unfoldable pub pieces : ℕ → List ℕ → List (List ℕ)
pieces separator [] = [] ∷ []
pieces separator (b ∷ bs) = if b == separator then [] ∷ pieces separator bs else onto_first b (pieces separator bs)

-- the bytes from the first on that passes
unfoldable pub from_first : (ℕ → Bool) → List ℕ → List ℕ
from_first p bs = drop (position_or_len p bs) bs

-- without the blanks at the start
abbrev pub after_blanks : List ℕ → List ℕ
after_blanks bs = from_first (λ b. not (is_blank b)) bs

-- the only word
abbrev pub lone : List (List ℕ) → Option (List ℕ)
lone [] = None
lone (w ∷ []) = Some w
lone (w ∷ v ∷ ws) = None

-- What follows the first word is operands, with commas between them; where it is blank there are none.
abbrev pub operands_when : List (List ℕ) → List ℕ → List (List ℕ)
operands_when [] rest = []
operands_when (w ∷ ws) rest = pieces 44 rest

abbrev pub operand_texts : List ℕ → List (List ℕ)
operand_texts rest = operands_when (words_of rest) rest

abbrev pub operand_at : ℕ → List ℕ → List ℕ
operand_at k rest = slice_index_or (pieces 44 rest) k []

-- no word
abbrev pub is_none_of : List (List ℕ) → Bool
is_none_of [] = true
is_none_of (w ∷ ws) = false

abbrev pub some_empty : List (List ℕ) → Bool
some_empty texts = list_any (λ text. is_none_of (words_of text)) texts
