use Rattle.strand_rules.proofs.NeverStall.{no_conflict}
use Rattle.strand_rules.proofs.laws.tagged_accesses_never_stall.Goals as goal

pub returns : goal.returns
returns c = no_conflict
