-- What the cores put out, as lines.
use Rattle.std.specs.Prelude.{ℕ, List, [], ◌∷◌}
use Rattle.std.specs.List.{flat_map}
use Rattle.std.specs.Fmt.{decimal}
use lib.Chars.{codes}
use Rattle.strand_base.specs.Hexadecimal.{hex16}
use Rattle.strand_base.specs.Text.{line_text}
use Rattle.strand_events.specs.declared.event.Event.{Event}
use Rattle.strand_events.specs.declared.event.Event.TheVariants.{Load, Store, Barrier, NewStrand, Join, Out}

-- "out N H": core N put out H; another event has no line
abbrev pub out_line : Event → List ℕ
out_line (Out core value) = line_text (codes "out" ∷ decimal core ∷ hex16 value ∷ [])
out_line (Load core word) = []
out_line (Store persist core word value) = []
out_line (Barrier core) = []
out_line (NewStrand core) = []
out_line (Join core) = []

-- in the order of the trace
abbrev pub out_lines : List Event → List ℕ
out_lines t = flat_map out_line t
