use Rattle.std.proofs.Common.{◌≡◌}
use Rattle.strand_events.specs.Order.{stands_between}
use Rattle.strand_rules.specs.Next.{is_kind}
use Rattle.strand_rules.proofs.past.Past.came_after.Given as goal

abbrev pub invariant-loop-k : goal.invariant-loop-k
invariant-loop-k l = l.found ≡ stands_between (is_kind l.kind) l.core l.self.state.now.trace l.a l.k
