use Rattle.strand_path.specs.Building.{AreOwn}
use Rattle.strand_path.proofs.tracing.own_levels.Given as goal

abbrev pub invariant-loop-k : goal.invariant-loop-k
invariant-loop-k l = AreOwn l.events l.k l.levels.items
