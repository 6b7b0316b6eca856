use Rattle.std.proofs.Common.{◌≡◌, ◌≤◌, replicate, vec_capacity}
use Rattle.strand_machine.specs.Changed.{empty_tally}
use Rattle.strand_machine.proofs.making.fresh_tallies.Given as goal

abbrev pub invariant-loop-i : goal.invariant-loop-i
invariant-loop-i l = record {
  tallies : l.tallies.items ≡ replicate l.i (empty_tally l.room);
  room : l.count ≤ vec_capacity l.tallies;
}
