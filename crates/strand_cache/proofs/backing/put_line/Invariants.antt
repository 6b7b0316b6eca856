-- The words so far are put back.
use Rattle.std.proofs.Common.{◌≡◌}
use Rattle.strand_exec.specs.Memory.{extents_of}
use Rattle.strand_cache.specs.Backing.{put_below}
use Rattle.strand_cache.proofs.backing.put_line.Given as goal

abbrev pub invariant-loop-k : goal.invariant-loop-k
invariant-loop-k l = record {
  put : l.memory ≡ put_below l.initial.memory l.line l.words l.k;
  extents : extents_of l.memory ≡ extents_of l.initial.memory;
}
