use Rattle.std.proofs.Common.{◌≡◌}
use Rattle.strand_order.specs.Edges.{edges_below}
use Rattle.strand_order.specs.Seen.{IsSeen}
use Rattle.strand_order.proofs.building.edges_of.Given as goal

abbrev pub invariant-loop-n : goal.invariant-loop-n
invariant-loop-n l = record { edges : l.edges.items ≡ edges_below l.mode l.trace.events l.n; seen : IsSeen l.trace.events l.n l.seen }
