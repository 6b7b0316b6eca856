use Rattle.std.proofs.Common.{◌≡◌, ◌<◌, ◌≤◌, length, map, take, slice_index}
use Rattle.strand_events.specs.Trace.{persist_number}
use Rattle.strand_path.proofs.numbering.numbers_of.Given as goal

abbrev pub invariant-loop-member : goal.invariant-loop-member
invariant-loop-member l = record {
  so_far : l.numbers ≡ map (persist_number l.events) (take l.member-index l.members);
  number_is : l.number ≡ persist_number l.events l.at;
  rising : l.member-index < length l.members → l.at ≤ slice_index l.members l.member-index;
}
