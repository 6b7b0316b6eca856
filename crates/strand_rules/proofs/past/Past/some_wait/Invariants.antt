use Rattle.std.proofs.Common.{◌≡◌}
use Rattle.strand_events.specs.Order.{set_of}
use Rattle.strand_rules.specs.Cycle.{some_wait}
use Rattle.strand_rules.proofs.past.Past.some_wait.Given as goal

abbrev pub invariant-loop-p : goal.invariant-loop-p
invariant-loop-p l = l.found ≡ some_wait l.self.state.now.trace (set_of l.self.state.durable) l.n l.p
