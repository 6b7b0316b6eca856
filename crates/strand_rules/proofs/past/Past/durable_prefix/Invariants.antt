use Rattle.std.proofs.Common.{◌≡◌, ◌≤◌, false, ◌&&◌}
use Rattle.std.specs.Prelude.{not}
use Rattle.strand_base.specs.Counting.{any_below}
use Rattle.strand_events.specs.Order.{set_of}
use Rattle.strand_events.specs.Prefixes.{made_below}
use Rattle.strand_events.specs.Trace.{is_persist, core_event_is}
use Rattle.strand_rules.proofs.past.Past.durable_prefix.Given as goal

abbrev pub invariant-loop-q : goal.invariant-loop-q
invariant-loop-q l = record {
  none : any_below l.q (λ p. core_event_is is_persist l.core l.self.state.now.trace p && not (set_of l.self.state.durable p)) ≡ false;
  counted : l.count ≡ made_below l.self.state.now.trace l.core l.q;
  small : l.count ≤ l.q;
}
