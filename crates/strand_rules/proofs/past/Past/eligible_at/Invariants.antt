use Rattle.std.proofs.Common.{◌≡◌, ◌≤◌}
use Rattle.strand_base.specs.Counting.{count_below}
use Rattle.strand_rules.specs.Cycle.{is_eligible}
use Rattle.strand_rules.proofs.past.Past.eligible_at.Given as goal

abbrev pub invariant-loop-p : goal.invariant-loop-p
invariant-loop-p l = record {
  counted : l.passed ≡ count_below l.p (is_eligible l.self.config l.self.state l.n l.b);
  small : l.passed ≤ l.p;
  before : l.passed ≤ l.place;
}
