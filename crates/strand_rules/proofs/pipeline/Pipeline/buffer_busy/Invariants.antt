use Rattle.std.proofs.Common.{◌≡◌}
use Rattle.strand_base.specs.Counting.{any_below}
use Rattle.strand_events.specs.Order.{set_of}
use Rattle.strand_rules.specs.Looking.{is_busy}
use Rattle.strand_rules.proofs.pipeline.Pipeline.buffer_busy.Given as goal

abbrev pub invariant-loop-p : goal.invariant-loop-p
invariant-loop-p l = l.found ≡ any_below l.p (is_busy l.self.config.mode l.self.config.buffers l.self.state.now.trace (set_of l.self.state.durable) l.n l.b)
