use Rattle.std.proofs.Common.{◌≡◌, length}
use Rattle.strand_inputs.specs.declared.mode.Mode.{Mode}
use Rattle.strand_judge.specs.Words.{crash_of}
use Rattle.strand_judge.specs.Gathered.{AreForced}
use Rattle.strand_refute.specs.Work.{IsExplained}
use Rattle.strand_refute.proofs.gathering.need_forced.Given as goal

abbrev pub invariant-loop-place : goal.invariant-loop-place
invariant-loop-place l = record {
  forced : AreForced l.events l.first l.found l.offered.firsts.items l.place l.fn.work.marks.items l.fn.work.list.items l.work.marks.items l.work.list.items;
  targets : length l.work.targets.items ≡ length l.events;
  explained : (mode : Mode) → IsExplained mode l.events (crash_of l.first l.found) l.fn.work.marks.items l.fn.work.targets.items l.fn.work.lines.items → IsExplained mode l.events (crash_of l.first l.found) l.work.marks.items l.work.targets.items l.work.lines.items;
}
