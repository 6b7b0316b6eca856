use Rattle.std.proofs.Common.{◌≡◌, ◌≤◌, length}
use Rattle.strand_judge.specs.Judged.{Crash}
use Rattle.strand_judge.proofs.Least.Edges.{FollowedFrom}
use Rattle.strand_refute.specs.Work.{IsExplained}
use Rattle.strand_refute.proofs.gathering.follow.Given as goal

abbrev pub invariant-loop-k : goal.invariant-loop-k
invariant-loop-k l = record {
  bound : l.k ≤ length l.edges;
  followed : FollowedFrom l.graph.mode l.graph.events l.j l.end l.k l.fn.work.marks.items l.fn.work.list.items l.work.marks.items l.work.list.items;
  targets : length l.work.targets.items ≡ length l.graph.events;
  explained : (crash : Crash) → IsExplained l.graph.mode l.graph.events crash l.fn.work.marks.items l.fn.work.targets.items l.fn.work.lines.items → IsExplained l.graph.mode l.graph.events crash l.work.marks.items l.work.targets.items l.work.lines.items;
}

abbrev pub decreases-loop-k : goal.decreases-loop-k
decreases-loop-k l = l.k
