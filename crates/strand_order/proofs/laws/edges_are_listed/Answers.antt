use Rattle.std.proofs.Common.{length}
use Rattle.strand_order.proofs.Edges.List.{edge_listed, listed_edge, listed_rising}
use Rattle.strand_order.proofs.laws.edges_are_listed.Goals as goal

pub returns-clause-all : goal.returns-clause-all
returns-clause-all c = λ mode t. edge_listed mode t (length t)

pub returns-clause-only : goal.returns-clause-only
returns-clause-only c = λ mode t. listed_edge mode t (length t)

pub returns-clause-order : goal.returns-clause-order
returns-clause-order c = λ mode t. listed_rising mode t (length t)
