-- The steps of a run that did nothing.
use Rattle.std.specs.Prelude.{ℕ, suc, List, [], ◌∷◌}
use Rattle.strand_rules.specs.declared.turn.BubbleAt.{BubbleAt}
use Rattle.strand_rules.specs.declared.turn.Turn.{Turn}
use Rattle.strand_rules.specs.declared.turn.Turn.TheVariants.{Done, Bubble, Fault}

-- the bubbles among some turns, of which the first is that of step k
unfoldable pub bubbles_from : ℕ → List Turn → List BubbleAt
bubbles_from k [] = []
bubbles_from k (Done ∷ turns) = bubbles_from (suc k) turns
bubbles_from k (Fault m ∷ turns) = bubbles_from (suc k) turns
bubbles_from k (Bubble cause ∷ turns) = record { cycle = k; cause = cause } ∷ bubbles_from (suc k) turns

-- the bubbles of a run, by its turns: steps are counted from 1
abbrev pub bubbles_of : List Turn → List BubbleAt
bubbles_of turns = bubbles_from 1 turns
