use Rattle.std.proofs.Common.{◌≡◌, ◌≤◌, [], replicate, vec_capacity}
use Rattle.strand_queue.specs.Queue.{queue}
use Rattle.strand_machine.proofs.making.fresh_queues.Given as goal

abbrev pub invariant-loop-i : goal.invariant-loop-i
invariant-loop-i l = record {
  queues : l.queues.items ≡ replicate l.i (queue [] l.depth);
  room : l.count ≤ vec_capacity l.queues;
}
