use Rattle.std.proofs.Common.{◌≡◌, ◌≤◌}
use Rattle.strand_events.specs.Prefixes.{made_below}
use Rattle.strand_rules.proofs.past.Past.made_below.Given as goal

abbrev pub invariant-loop-k : goal.invariant-loop-k
invariant-loop-k l = record {
  counted : l.count ≡ made_below l.self.state.now.trace l.core l.k;
  small : l.count ≤ l.k;
}
