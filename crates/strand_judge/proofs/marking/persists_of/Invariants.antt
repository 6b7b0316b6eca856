use Rattle.std.proofs.Common.{◌≡◌}
use Rattle.strand_base.specs.Counting.{list_below}
use Rattle.strand_events.specs.Trace.{event_is, is_persist}
use Rattle.strand_judge.proofs.marking.persists_of.Given as goal

abbrev pub invariant-loop-k : goal.invariant-loop-k
invariant-loop-k l = l.persists.items ≡ list_below l.k (event_is is_persist l.events)
