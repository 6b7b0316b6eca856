use Rattle.std.proofs.Common.{◌≡◌, ℕ, ◌<◌, ◌≤◌, get_or, length}
use Rattle.strand_base.specs.declared.limits.TheConstants.{CORE_ROOM}
use Rattle.strand_tags.specs.Access.{access}
use Rattle.strand_tags.specs.TagsSeen.{answer, conflicting_wait}
use Rattle.strand_tags.proofs.tags.Tags.covers.Given as goal

abbrev pub invariant-loop-c : goal.invariant-loop-c
invariant-loop-c l = record {
  size : length l.counts ≡ CORE_ROOM;
  below : (k : ℕ) → k < l.c → get_or l.counts k 0 ≡ answer l.self (access l.core l.strand l.word l.write) k;
  above : (k : ℕ) → l.c ≤ k → get_or l.counts k 0 ≡ get_or (conflicting_wait l.self (access l.core l.strand l.word l.write)) k 0;
}
