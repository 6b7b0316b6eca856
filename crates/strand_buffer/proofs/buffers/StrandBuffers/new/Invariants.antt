use Rattle.std.proofs.Common.{◌≡◌, ◌≤◌, replicate, vec_capacity}
use Rattle.strand_buffer.specs.KeptBuffers.{empty_ring}
use Rattle.strand_buffer.proofs.buffers.StrandBuffers.new.Given as goal

abbrev pub invariant-loop-b : goal.invariant-loop-b
invariant-loop-b l = record {
  rings : l.rings.items ≡ replicate l.b (empty_ring l.ring);
  room : l.buffers ≤ vec_capacity l.rings;
}
