-- The events of a trace and the edges of its graph, as lines.
use Rattle.std.specs.Prelude.{ℕ, Bool, true, false, List, [], ◌∷◌, ◌++◌}
use Rattle.std.specs.List.{flat_map}
use Rattle.std.specs.Fmt.{decimal}
use lib.Chars.{codes}
use Rattle.strand_base.specs.Hexadecimal.{hex16}
use Rattle.strand_base.specs.Text.{line_text}
use Rattle.strand_inputs.specs.declared.mode.Mode.{Mode}
use Rattle.strand_events.specs.declared.event.Event.{Event}
use Rattle.strand_events.specs.declared.event.Event.TheVariants.{Load, Store, Barrier, NewStrand, Join, Out}
use Rattle.strand_events.specs.Trace.{persist_number}
use Rattle.strand_order.specs.declared.edge.Edge.{Edge}
use Rattle.strand_order.specs.Edges.{edges_of}
use Rattle.strand_report.specs.Numbered.{numbered_texts}

-- the number of a store that is a persist
abbrev pub persist_words : Bool → ℕ → List (List ℕ)
persist_words true p = codes "persist" ∷ decimal p ∷ []
persist_words false p = []

-- what an event is, where p persists are before it
abbrev pub event_words : ℕ → Event → List (List ℕ)
event_words p (Load core word) = codes "load" ∷ decimal core ∷ hex16 word ∷ []
event_words p (Store persist core word value) = codes "store" ∷ decimal core ∷ hex16 word ∷ hex16 value ∷ persist_words persist p
event_words p (Barrier core) = codes "barrier" ∷ decimal core ∷ []
event_words p (NewStrand core) = codes "newstrand" ∷ decimal core ∷ []
event_words p (Join core) = codes "join" ∷ decimal core ∷ []
event_words p (Out core value) = codes "out" ∷ decimal core ∷ hex16 value ∷ []

-- "event K ..": event k, where p persists are before it
abbrev pub event_line : ℕ → ℕ → Event → List ℕ
event_line k p e = line_text (codes "event" ∷ decimal k ∷ event_words p e)

-- the line of event k of a trace
abbrev pub event_text : List Event → ℕ → Event → List ℕ
event_text t k e = event_line k (persist_number t k) e

abbrev pub event_lines : List Event → List ℕ
event_lines t = numbered_texts (event_text t) t

-- "edge I J": an edge from event I to event J
abbrev pub edge_line : Edge → List ℕ
edge_line e = line_text (codes "edge" ∷ decimal e.before ∷ decimal e.after ∷ [])

abbrev pub edge_lines : List Edge → List ℕ
edge_lines edges = flat_map edge_line edges

-- events, then edges between them, in their order
abbrev pub events_and_edges : List Event → List Edge → List ℕ
events_and_edges events edges = event_lines events ++ edge_lines edges

-- the events of a trace, then the edges of its graph
abbrev pub trace_text : Mode → List Event → List ℕ
trace_text mode t = events_and_edges t (edges_of mode t)
