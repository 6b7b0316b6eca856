-- A graph as contracts see it: its edges follow from these.
use Rattle.std.specs.Prelude.{◌≡◌, ◌^◌, ◌<◌, List, length}
use Rattle.strand_inputs.specs.declared.mode.Mode.{Mode}
use Rattle.strand_events.specs.declared.event.Event.{Event}
use Rattle.strand_order.specs.declared.edge.Edge.{Edge}
use Rattle.strand_order.specs.Edges.{edges_of}

pub record GraphSeen : Type 0 where
  -- the events, the oldest first
  pub events : List Event
  -- how they are ordered
  pub mode : Mode

-- what every graph keeps
pub record IsKeptGraph (events : List Event) (mode : Mode) (edges : List Edge) : Type 0 where
  pub small : length events < 2 ^ 32
  pub edges_are : edges ≡ edges_of mode events
