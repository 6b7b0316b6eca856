use Rattle.std.proofs.Common.{◌≡◌, ◌≤◌}
use Rattle.strand_base.specs.Counting.{count_below}
use Rattle.strand_events.specs.Trace.{core_event_is}
use Rattle.strand_rules.specs.Cycle.{is_item}
use Rattle.strand_rules.proofs.pipeline.Pipeline.front.Given as goal

abbrev pub invariant-loop-k : goal.invariant-loop-k
invariant-loop-k l = record {
  counted : l.passed ≡ count_below l.k (core_event_is (is_item l.self.config.mode) l.n l.self.state.now.trace);
  small : l.passed ≤ l.k;
  before : l.passed ≤ l.place;
}
