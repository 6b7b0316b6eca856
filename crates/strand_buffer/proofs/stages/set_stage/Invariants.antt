use Rattle.std.proofs.Common.{◌≡◌, ◌++◌, take, drop, map, length, vec_capacity}
use Rattle.strand_buffer.specs.Buffers.{with_stage}
use Rattle.strand_buffer.proofs.stages.set_stage.Given as goal

abbrev pub invariant-loop-i : goal.invariant-loop-i
invariant-loop-i l = record {
  front : l.entries.items ≡ map (with_stage l.stage l.number) (take l.i l.fn.entries.items) ++ drop l.i l.fn.entries.items;
  size : length l.entries.items ≡ length l.fn.entries.items;
  room : vec_capacity l.entries ≡ vec_capacity l.fn.entries;
}
