-- The copies of lines that the cores hold, the lists of lines that they make, and the flat memory that they stand for.
use Rattle.std.specs.Prelude.{ℕ, Bool, ◌&&◌, ◌==◌, not, List, [], ◌∷◌, map, Option, None, slice_index_or}
use Rattle.std.specs.List.{filter, find}
use Rattle.std.specs.Option.{option_or}
use Rattle.strand_cache.specs.declared.held_line.HeldLine.{HeldLine}

-- a copy of the line
abbrev pub is_of : ℕ → HeldLine → Bool
is_of line held = line == held.line

-- a changed copy of the line
abbrev pub is_changed : ℕ → HeldLine → Bool
is_changed line held = held.changed && (line == held.line)

-- a copy, unchanged where it is of the line
abbrev pub cleaned : ℕ → HeldLine → HeldLine
cleaned line held = record { line = held.line; changed = held.changed && not (line == held.line); words = held.words }

-- the copies of other lines
abbrev pub others : ℕ → List HeldLine → List HeldLine
others line row = filter (λ held. not (line == held.line)) row

-- the copies that the cores hold of the lines of one set: for each core its row
abbrev pub row_of : List (List HeldLine) → ℕ → List HeldLine
row_of rows core = slice_index_or rows core []

-- the changed copy of a line in the rows of its set
abbrev pub owned : ℕ → List (List HeldLine) → Option HeldLine
owned line [] = None
owned line (row ∷ rows) = option_or (find (is_changed line) row) (owned line rows)

-- the lines of a row
abbrev pub row_lines : List HeldLine → List ℕ
row_lines row = map (λ held. held.line) row
