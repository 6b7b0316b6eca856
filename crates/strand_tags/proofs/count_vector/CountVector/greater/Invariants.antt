use Rattle.std.proofs.Common.{◌≡◌, ℕ, ◌<◌, ◌≤◌, max, slice_index, length}
use Rattle.strand_base.specs.declared.limits.TheConstants.{CORE_ROOM}
use Rattle.strand_tags.proofs.count_vector.CountVector.greater.Given as goal

abbrev pub invariant-loop-c : goal.invariant-loop-c
invariant-loop-c l = record {
  size : length l.counts ≡ CORE_ROOM;
  done : (k : ℕ) → k < l.c → slice_index l.counts k ≡ max (slice_index l.fn.self.counts k) (slice_index l.other.counts k);
  rest : (k : ℕ) → l.c ≤ k → slice_index l.counts k ≡ slice_index l.fn.self.counts k;
}
