use Rattle.strand_judge.specs.Gathered.{AreJoined}
use Rattle.strand_judge.proofs.seeding.mark_joined.Given as goal

abbrev pub invariant-loop-p : goal.invariant-loop-p
invariant-loop-p l = AreJoined l.events l.p-index l.persists l.joined l.marks.items l.list.items
