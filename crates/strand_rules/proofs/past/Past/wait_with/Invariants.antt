use Rattle.std.proofs.Common.{◌≡◌, ℕ, ◌<◌, length}
use Rattle.std.specs.Prelude.{max, slice_index}
use Rattle.strand_base.specs.declared.limits.TheConstants.{CORE_ROOM}
use Rattle.strand_events.specs.Waits.{wait}
use Rattle.strand_rules.specs.Next.{made_next}
use Rattle.strand_rules.proofs.past.Past.wait_with.Given as goal

abbrev pub invariant-loop-c : goal.invariant-loop-c
invariant-loop-c l = record {
  size : length l.more ≡ CORE_ROOM;
  done : (k : ℕ) → k < l.c → slice_index l.more k ≡ max (max (wait l.self.config.mode l.self.state.now.trace k l.a) (made_next l.self.config.mode l.self.state.now.trace l.event k l.a)) (slice_index l.wait k);
}
