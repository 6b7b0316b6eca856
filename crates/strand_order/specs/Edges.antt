-- The list of the edges, by the later event and then by the earlier.
use Rattle.std.specs.Prelude.{◌≡◌, ◌⊎◌, ◌<◌, ℕ, zero, suc, List, [], ◌++◌, map, length}
use Rattle.strand_inputs.specs.declared.mode.Mode.{Mode}
use Rattle.strand_base.specs.Counting.{list_below}
use Rattle.strand_events.specs.declared.event.Event.{Event}
use Rattle.strand_order.specs.declared.edge.Edge.{Edge}
use Rattle.strand_order.specs.Graph.{is_edge}

abbrev pub edge_from : ℕ → ℕ → Edge
edge_from j i = record { before = i; after = j }

-- the edges to event j from the events below n
abbrev pub edges_to : Mode → List Event → ℕ → ℕ → List Edge
edges_to mode t j n = map (edge_from j) (list_below n (λ i. is_edge mode t i j))

-- the edges to the events below n
unfoldable pub edges_below : Mode → List Event → ℕ → List Edge
edges_below mode t zero = []
edges_below mode t (suc j) = edges_below mode t j ++ edges_to mode t j j

abbrev pub edges_of : Mode → List Event → List Edge
edges_of mode t = edges_below mode t (length t)

-- by the later event, and then by the earlier
abbrev pub StandsBefore : Edge → Edge → Type 0
StandsBefore e f = (e.after < f.after) ⊎ ((e.after ≡ f.after) × (e.before < f.before))
