use Rattle.std.proofs.Common.{◌≡◌, ℕ, ◌<◌, length}
use Rattle.std.specs.Prelude.{slice_index}
use Rattle.strand_base.specs.declared.limits.TheConstants.{CORE_ROOM}
use Rattle.strand_events.specs.Order.{set_of}
use Rattle.strand_events.specs.Prefixes.{durable_prefix}
use Rattle.strand_rules.proofs.past.Past.durable_prefixes.Given as goal

abbrev pub invariant-loop-c : goal.invariant-loop-c
invariant-loop-c l = record {
  size : length l.prefixes ≡ CORE_ROOM;
  done : (k : ℕ) → k < l.c → slice_index l.prefixes k ≡ durable_prefix l.self.state.now.trace (set_of l.self.state.durable) k;
}
