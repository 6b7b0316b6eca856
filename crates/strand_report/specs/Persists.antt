-- Persists by their numbers, as a line.
use Rattle.std.specs.Prelude.{ℕ, Bool, List, ◌∷◌, ◌++◌, length, map}
use Rattle.std.specs.Fmt.{decimal}
use lib.Chars.{codes}
use Rattle.strand_base.specs.Counting.{list_below}
use Rattle.strand_base.specs.Text.{line_text}
use Rattle.strand_events.specs.Order.{set_of}

-- the numbers that are marked, ascending
abbrev pub marked : List Bool → List ℕ
marked marks = list_below (length marks) (set_of marks)

-- "NAME C:", and a space and a number for each of the C members
abbrev pub members_line : List ℕ → List ℕ → List ℕ
members_line name members = line_text (name ∷ (decimal (length members) ++ codes ":") ∷ map decimal members)

-- "durable C: N N .."
abbrev pub durable_line : List Bool → List ℕ
durable_line marks = members_line (codes "durable") (marked marks)

-- "path C: N N ..", by the chosen chain
abbrev pub path_line : List ℕ → List ℕ
path_line chain = members_line (codes "path") chain
