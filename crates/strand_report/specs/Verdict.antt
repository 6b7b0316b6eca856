-- The line of a verdict.
use Rattle.std.specs.Prelude.{ℕ, List, [], ◌∷◌}
use Rattle.std.specs.Fmt.{decimal}
use lib.Chars.{codes}
use Rattle.strand_base.specs.Hexadecimal.{hex16}
use Rattle.strand_base.specs.Text.{line_text}
use Rattle.strand_judge.specs.declared.verdict.Verdict.{Verdict}
use Rattle.strand_judge.specs.declared.verdict.Verdict.TheVariants.{Yes, No}
use Rattle.strand_report.specs.Persists.{members_line}

-- "yes C: N N ..", by the least set, or "no H R", word and rank
abbrev pub verdict_text : Verdict → List ℕ
verdict_text (Yes list) = members_line (codes "yes") list
verdict_text (No word rank) = line_text (codes "no" ∷ hex16 word ∷ decimal rank ∷ [])
