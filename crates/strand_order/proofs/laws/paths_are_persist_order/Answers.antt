use Rattle.strand_order.proofs.Paths.Before.{before_path}
use Rattle.strand_order.proofs.Paths.Path.{path_before}
use Rattle.strand_order.proofs.laws.paths_are_persist_order.Goals as goal

pub returns-clause-path : goal.returns-clause-path
returns-clause-path c = path_before

pub returns-clause-before : goal.returns-clause-before
returns-clause-before c = before_path
