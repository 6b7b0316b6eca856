-- The line before what is told of a generation.
use Rattle.std.specs.Prelude.{ℕ, List, [], ◌∷◌}
use Rattle.std.specs.Fmt.{decimal}
use lib.Chars.{codes}
use Rattle.strand_base.specs.Text.{line_text}

-- "generation G"
abbrev pub generation_line : ℕ → List ℕ
generation_line number = line_text (codes "generation" ∷ decimal number ∷ [])
