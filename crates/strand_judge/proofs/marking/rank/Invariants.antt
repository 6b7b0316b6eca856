use Rattle.std.proofs.Common.{◌≡◌, ◌≤◌}
use Rattle.strand_base.specs.Counting.{count_below}
use Rattle.strand_events.specs.Order.{set_of, sets_word}
use Rattle.strand_judge.proofs.marking.rank.Given as goal

abbrev pub invariant-loop-k : goal.invariant-loop-k
invariant-loop-k l = record {
  counted : l.count ≡ count_below l.k (sets_word l.events (set_of l.marks) l.word);
  small : l.count ≤ l.k;
}
