-- The lines of a generated run: its words, and its summary.
use Rattle.std.specs.Prelude.{ℕ, List, [], ◌∷◌, length}
use Rattle.std.specs.Fmt.{decimal}
use lib.Chars.{codes}
use Rattle.strand_base.specs.Hexadecimal.{hex16}
use Rattle.strand_base.specs.Text.{line_text, text_of}
use Rattle.strand_judge.specs.declared.verdict.Verdict.{Verdict}
use Rattle.strand_judge.specs.declared.verdict.Verdict.TheVariants.{Yes, No}
use Rattle.strand_report.specs.declared.summary.Summary.{Summary}

-- "gen SEED SIZE": the numbers, not the words that wrote them
abbrev pub gen_line : ℕ → ℕ → List ℕ
gen_line seed size = line_text (codes "gen" ∷ decimal seed ∷ decimal size ∷ [])

-- "judge yes C", by how many members the least set has, or "judge no H R", word and rank
abbrev pub judge_words : Verdict → List (List ℕ)
judge_words (Yes list) = codes "judge" ∷ codes "yes" ∷ decimal (length list) ∷ []
judge_words (No word rank) = codes "judge" ∷ codes "no" ∷ hex16 word ∷ decimal rank ∷ []

-- "persists P", "durable D", "path L", "done X", and the judge's line
abbrev pub summary_words : Summary → List (List (List ℕ))
summary_words s =
    (codes "persists" ∷ decimal s.persists ∷ []) ∷ (codes "durable" ∷ decimal s.durable ∷ []) ∷ (codes "path" ∷ decimal s.path ∷ []) ∷ (codes "done" ∷ decimal s.done ∷ []) ∷ judge_words s.verdict ∷ []

unfoldable pub summary_text : Summary → List ℕ
summary_text s = text_of (summary_words s)
