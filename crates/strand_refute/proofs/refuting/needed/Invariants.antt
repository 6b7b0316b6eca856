use Rattle.std.proofs.Common.{◌≡◌, ◌+◌, ◌-◌, length}
use Rattle.strand_judge.specs.Words.{crash_of}
use Rattle.strand_judge.specs.Worklist.{left}
use Rattle.strand_judge.proofs.Least.Work.{IsWorked}
use Rattle.strand_refute.specs.Work.{IsExplained}
use Rattle.strand_refute.proofs.refuting.needed.Given as goal

abbrev pub invariant-loop-done : goal.invariant-loop-done
invariant-loop-done l = record {
  worked : IsWorked l.graph.mode l.graph.events (crash_of l.first l.found) l.done l.work.marks.items l.work.list.items;
  targets : length l.work.targets.items ≡ length l.graph.events;
  explained : IsExplained l.graph.mode l.graph.events (crash_of l.first l.found) l.work.marks.items l.work.targets.items l.work.lines.items;
}

abbrev pub decreases-loop-done : goal.decreases-loop-done
decreases-loop-done l = left (length l.graph.events) l.work.marks.items + (length l.work.list.items - l.done)
