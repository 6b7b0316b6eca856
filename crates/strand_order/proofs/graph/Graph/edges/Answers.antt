use Rattle.std.proofs.Common.{length, ap, arith}
use Rattle.strand_order.specs.GraphSeen.{GraphSeen}
use Rattle.strand_order.proofs.Edges.Few.{few_edges}
use Rattle.strand_order.proofs.graph.Graph.edges.Goals as goal

pub returns-clause-few : goal.returns-clause-few
returns-clause-few c = omega (arith, few_edges c.self.inside.mode c.self.inside.events.items, ap length c.deref.ensures.value, ap length c.self.invariant.edges_are, ap (λ (g : GraphSeen). length g.events) c.self.view_is)
