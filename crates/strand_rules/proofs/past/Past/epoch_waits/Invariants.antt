use Rattle.std.proofs.Common.{◌≡◌}
use Rattle.strand_base.specs.Counting.{any_below}
use Rattle.strand_events.specs.Order.{set_of}
use Rattle.strand_rules.specs.Cycle.{is_lower}
use Rattle.strand_rules.proofs.past.Past.epoch_waits.Given as goal

abbrev pub invariant-loop-q : goal.invariant-loop-q
invariant-loop-q l = l.found ≡ any_below l.q (λ q. is_lower l.self.config.mode l.self.state.now.trace (set_of l.self.state.durable) q l.p)
