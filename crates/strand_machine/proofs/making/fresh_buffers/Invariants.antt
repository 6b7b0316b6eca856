use Rattle.std.proofs.Common.{◌≡◌, ◌≤◌, replicate, vec_capacity}
use Rattle.strand_buffer.specs.Buffers.{empty_buffers}
use Rattle.strand_machine.proofs.making.fresh_buffers.Given as goal

abbrev pub invariant-loop-i : goal.invariant-loop-i
invariant-loop-i l = record {
  buffers : l.all.items ≡ replicate l.i (empty_buffers l.buffers l.ring);
  room : l.count ≤ vec_capacity l.all;
}
