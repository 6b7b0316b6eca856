use Rattle.strand_events.specs.Order.{set_of}
use Rattle.strand_report.proofs.CountLoop.{Counted}
use Rattle.strand_report.proofs.durable.count_marked.Given as goal

abbrev pub invariant-loop-mark : goal.invariant-loop-mark
invariant-loop-mark l = Counted (set_of l.marks) l.mark-index l.count
