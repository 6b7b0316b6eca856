use Rattle.std.proofs.Common.{◌≤◌, ◌-◌}
use Rattle.strand_machine.specs.Changed.{durable_first}
use Rattle.strand_machine.proofs.tally.durable_from.Given as goal

abbrev pub invariant-loop-count : goal.invariant-loop-count
invariant-loop-count l = l.count ≤ durable_first l.durable l.numbers

abbrev pub decreases-loop-count : goal.decreases-loop-count
decreases-loop-count l = durable_first l.durable l.numbers - l.count
