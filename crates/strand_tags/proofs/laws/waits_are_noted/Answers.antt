-- The laws are lemmas.
use Rattle.strand_tags.proofs.ConflictWaits.{conflicts_covered, keeps_own, keeps_other}
use Rattle.strand_tags.proofs.Vectors.{each_is}
use Rattle.strand_tags.proofs.laws.waits_are_noted.Goals as goal

pub returns-clause-conflicts : goal.returns-clause-conflicts
returns-clause-conflicts c = λ mode t b core is few. conflicts_covered mode t b core is few

pub returns-clause-own : goal.returns-clause-own
returns-clause-own c = keeps_own

pub returns-clause-others : goal.returns-clause-others
returns-clause-others c = keeps_other

pub returns-clause-vector : goal.returns-clause-vector
returns-clause-vector c = each_is
