use Rattle.strand_path.proofs.LongestPath.Route.{IsRouteTo}
use Rattle.strand_path.proofs.walking.route_of.Given as goal

abbrev pub invariant-loop-k : goal.invariant-loop-k
invariant-loop-k l = IsRouteTo l.graph.mode l.graph.events l.members l.k l.route
