use Rattle.std.proofs.Common.{arith}
use Rattle.std.proofs.lemmas.List.{length-map}
use Rattle.strand_image.specs.Checking.{names_of}
use Rattle.strand_image.proofs.ByName.{so_far_none, so_far_more, so_far_all}
use Rattle.strand_image.proofs.checking.least_repeated.Goals as goal

pub loop-k-init : goal.loop-k-init
loop-k-init c = simp length-map at (so_far_none (names_of c.args.symbols.now) c.args.order.now)

pub loop-k-preserved : goal.loop-k-preserved
loop-k-preserved c = rw c.lowered-least.ensures (so_far_more _ _ _ _ c.requires (omega arith) (omega arith) c.loop-k.invariant)

pub returns : goal.returns
returns c = so_far_all _ _ _ _ c.requires (omega arith) c.loop-k.invariant
