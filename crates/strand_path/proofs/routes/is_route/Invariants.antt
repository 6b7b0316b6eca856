use Rattle.strand_path.proofs.Check.Route.{IsJoinedTo}
use Rattle.strand_path.proofs.routes.is_route.Given as goal

abbrev pub invariant-loop-k : goal.invariant-loop-k
invariant-loop-k l = IsJoinedTo l.graph.mode l.graph.events l.route l.k l.place
