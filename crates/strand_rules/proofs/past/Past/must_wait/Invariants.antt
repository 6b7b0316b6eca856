use Rattle.std.proofs.Common.{◌≡◌, ℕ, ◌<◌, length}
use Rattle.strand_base.specs.declared.limits.TheConstants.{CORE_ROOM}
use Rattle.strand_base.specs.Counting.{any_below}
use Rattle.strand_events.specs.Order.{set_of}
use Rattle.strand_rules.specs.Cycle.{some_wait}
use Rattle.strand_rules.specs.Looking.{holds_up}
use Rattle.strand_rules.proofs.past.Past.must_wait.Given as goal

abbrev pub invariant-loop-a : goal.invariant-loop-a
invariant-loop-a l = record {
  found : l.found ≡ any_below l.a (holds_up l.self.config.mode l.self.state.now.trace (set_of l.self.state.durable) l.event);
  cores : length l.waiting ≡ CORE_ROOM;
  waits : (n : ℕ) → n < CORE_ROOM → set_of l.waiting n ≡ some_wait l.self.state.now.trace (set_of l.self.state.durable) n l.a;
}
