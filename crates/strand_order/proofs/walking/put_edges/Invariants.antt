use Rattle.std.proofs.Common.{◌≡◌, ◌++◌, ◌≤◌, length, map, take}
use Rattle.std.specs.Prelude.{reverse}
use Rattle.strand_order.specs.Edges.{edge_from}
use Rattle.strand_order.proofs.walking.put_edges.Given as goal

abbrev pub invariant-loop-k : goal.invariant-loop-k
invariant-loop-k l = record { within : l.k ≤ length l.list; made : l.edges.items ++ map (edge_from l.j) (reverse (take l.k l.list)) ≡ l.fn.edges.items ++ map (edge_from l.j) (reverse l.list) }

abbrev pub decreases-loop-k : goal.decreases-loop-k
decreases-loop-k l = l.k
