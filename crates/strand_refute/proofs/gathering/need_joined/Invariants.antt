use Rattle.std.proofs.Common.{◌≡◌, length}
use Rattle.strand_inputs.specs.declared.mode.Mode.{Mode}
use Rattle.strand_judge.specs.Judged.{Crash}
use Rattle.strand_judge.specs.Gathered.{AreJoined}
use Rattle.strand_refute.specs.Work.{IsExplained}
use Rattle.strand_refute.proofs.gathering.need_joined.Given as goal

abbrev pub invariant-loop-p : goal.invariant-loop-p
invariant-loop-p l = record {
  joined : AreJoined l.events l.p-index l.persists l.joined l.work.marks.items l.work.list.items;
  targets : length l.work.targets.items ≡ length l.events;
  explained : (mode : Mode) (crash : Crash) → IsExplained mode l.events crash l.fn.work.marks.items l.fn.work.targets.items l.fn.work.lines.items → IsExplained mode l.events crash l.work.marks.items l.work.targets.items l.work.lines.items;
}
