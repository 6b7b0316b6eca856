use Rattle.std.proofs.Common.{◌≡◌, ◌<◌, ◌≤◌, length, slice_index}
use Rattle.strand_events.specs.Trace.{persist_number}
use Rattle.strand_path.proofs.Check.Chain.{IsAlong}
use Rattle.strand_path.proofs.checking.is_along.Given as goal

abbrev pub invariant-loop-k : goal.invariant-loop-k
invariant-loop-k l = record {
  along : IsAlong l.graph.events l.chain l.route l.k l.next;
  number_is : l.number ≡ persist_number l.graph.events l.at;
  rising : l.k < length l.route → l.at ≤ slice_index l.route l.k;
}
