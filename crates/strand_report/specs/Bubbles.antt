-- The steps that did nothing, as lines.
use Rattle.std.specs.Prelude.{ℕ, List, [], ◌∷◌}
use Rattle.std.specs.List.{flat_map}
use Rattle.std.specs.Fmt.{decimal}
use lib.Chars.{codes}
use Rattle.strand_base.specs.Text.{line_text}
use Rattle.strand_rules.specs.declared.turn.BubbleAt.{BubbleAt}
use Rattle.strand_rules.specs.declared.turn.Cause.{Cause}
use Rattle.strand_rules.specs.declared.turn.Cause.TheVariants.{Ended, Join, Conflict, Queue, NoItem, NoRoom, NotEmpty, NoEntry, FlightFull, OlderWaits}

abbrev pub cause_word : Cause → List ℕ
cause_word Ended = codes "ended"
cause_word Join = codes "join"
cause_word Conflict = codes "conflict"
cause_word Queue = codes "queue"
cause_word NoItem = codes "noitem"
cause_word NoRoom = codes "noroom"
cause_word NotEmpty = codes "notempty"
cause_word NoEntry = codes "noentry"
cause_word FlightFull = codes "flightfull"
cause_word OlderWaits = codes "olderwaits"

-- "bubble K CAUSE": step K did nothing
abbrev pub bubble_line : BubbleAt → List ℕ
bubble_line bubble =
    line_text (codes "bubble" ∷ decimal bubble.cycle ∷ cause_word bubble.cause ∷ [])

abbrev pub bubble_lines : List BubbleAt → List ℕ
bubble_lines bubbles = flat_map bubble_line bubbles
