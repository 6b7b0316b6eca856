use Rattle.std.proofs.Common.{◌<◌, length}
use Rattle.strand_path.specs.Picking.{ArePicked}
use Rattle.strand_path.proofs.picking.members.Given as goal

abbrev pub invariant-loop-n : goal.invariant-loop-n
invariant-loop-n l = record {
  within : l.n < length l.chain.items;
  picked : ArePicked l.graph.mode l.graph.events l.traces.levels.items l.chain.items l.n;
}

abbrev pub decreases-loop-n : goal.decreases-loop-n
decreases-loop-n l = l.n
