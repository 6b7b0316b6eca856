use Rattle.std.proofs.Common.{◌≡◌, ◌&&◌}
use Rattle.std.specs.Prelude.{not}
use Rattle.strand_base.specs.Counting.{any_below}
use Rattle.strand_events.specs.Order.{set_of}
use Rattle.strand_events.specs.Trace.{is_access, core_event_is}
use Rattle.strand_events.specs.Waits.{is_met}
use Rattle.strand_rules.proofs.past.Past.some_unmet.Given as goal

abbrev pub invariant-loop-a : goal.invariant-loop-a
invariant-loop-a l = l.found ≡ any_below l.a (λ a. core_event_is is_access l.n l.self.state.now.trace a && not (is_met l.self.config.mode l.self.state.now.trace (set_of l.self.state.durable) a))
