use Rattle.std.proofs.Common.{◌≤◌, length}
use Rattle.strand_judge.proofs.Least.Edges.{FollowedFrom}
use Rattle.strand_judge.proofs.listing.follow.Given as goal

abbrev pub invariant-loop-k : goal.invariant-loop-k
invariant-loop-k l = record { bound : l.k ≤ length l.edges; followed : FollowedFrom l.graph.mode l.graph.events l.j l.end l.k l.fn.marks.items l.fn.list.items l.marks.items l.list.items }

abbrev pub decreases-loop-k : goal.decreases-loop-k
decreases-loop-k l = l.k
