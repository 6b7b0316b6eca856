use Rattle.std.proofs.Common.{◌≡◌, ◌++◌}
use Rattle.strand_report.proofs.MarkLoop.{members_below}
use Rattle.strand_report.proofs.durable.put_marked.Given as goal

abbrev pub invariant-loop-number : goal.invariant-loop-number
invariant-loop-number l = l.into.items ≡ l.fn.into.items ++ members_below l.number l.marks
