use Rattle.strand_judge.specs.Gathered.{AreForced}
use Rattle.strand_judge.proofs.seeding.mark_forced.Given as goal

abbrev pub invariant-loop-place : goal.invariant-loop-place
invariant-loop-place l = AreForced l.events l.first l.found l.offered.firsts.items l.place l.fn.marks.items l.fn.list.items l.marks.items l.list.items
