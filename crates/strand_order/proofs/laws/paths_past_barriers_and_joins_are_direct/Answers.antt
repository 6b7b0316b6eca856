use Rattle.strand_order.proofs.Paths.Direct.{path_direct}
use Rattle.strand_order.proofs.laws.paths_past_barriers_and_joins_are_direct.Goals as goal

pub returns : goal.returns
returns c = path_direct
