use Rattle.std.proofs.Common.{◌≡◌, ◌≤◌}
use Rattle.strand_base.specs.Counting.{count_below, any_below}
use Rattle.strand_events.specs.Order.{set_of}
use Rattle.strand_rules.specs.Looking.{is_open, is_in_use}
use Rattle.strand_rules.proofs.pipeline.Pipeline.ring_use.Given as goal

abbrev pub invariant-loop-p : goal.invariant-loop-p
invariant-loop-p l = record {
  opened : l.open ≡ any_below l.p (is_open l.self.config.mode l.self.state.now.trace (set_of l.self.state.durable) l.n l.k);
  used : l.used ≡ count_below l.p (is_in_use l.self.config.mode l.self.state.now.trace (set_of l.self.state.durable) l.n l.k);
  few : l.used ≤ l.p;
}
