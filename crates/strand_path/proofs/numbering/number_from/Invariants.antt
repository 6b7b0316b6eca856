use Rattle.std.proofs.Common.{◌≡◌, ◌≤◌}
use Rattle.strand_events.specs.Trace.{persist_number}
use Rattle.strand_path.proofs.numbering.number_from.Given as goal

abbrev pub invariant-loop-k : goal.invariant-loop-k
invariant-loop-k l = record {
  counted : l.count ≡ persist_number l.events l.k;
  small : l.count ≤ l.k;
}
