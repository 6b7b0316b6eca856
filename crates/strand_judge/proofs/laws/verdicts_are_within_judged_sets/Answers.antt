use Rattle.strand_judge.proofs.Verdicts.Yes.{yes_within}
use Rattle.strand_judge.proofs.laws.verdicts_are_within_judged_sets.Goals as goal

pub returns : goal.returns
returns c = yes_within
