use Rattle.std.proofs.Common.{◌+◌, ◌-◌, length}
use Rattle.strand_judge.specs.Words.{crash_of}
use Rattle.strand_judge.specs.Worklist.{left}
use Rattle.strand_judge.proofs.Least.Work.{IsWorked}
use Rattle.strand_judge.proofs.judging.settled.Given as goal

abbrev pub invariant-loop-done : goal.invariant-loop-done
invariant-loop-done l = IsWorked l.graph.mode l.graph.events (crash_of l.first l.found) l.done l.marks.items l.list.items

abbrev pub decreases-loop-done : goal.decreases-loop-done
decreases-loop-done l = left (length l.graph.events) l.marks.items + (length l.list.items - l.done)
