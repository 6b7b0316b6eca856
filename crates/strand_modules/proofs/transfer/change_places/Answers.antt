use Rattle.std.proofs.Common.{arith}
use Rattle.strand_modules.proofs.PartSize.{places_changed}
use Rattle.strand_modules.proofs.transfer.change_places.Goals as goal

pub returns : goal.returns
returns g c =
    places_changed (λ part. (goal.PmModule-dyn g (part.vtable, part.value)).holds part.value) c.args.modules.now.items c.args.index c.index_mut.result.now c.args.other.now c.swap.new.x c.swap.new.y
    (omega arith) c.index_mut.ensures.value c.swap.ensures.x_after c.swap.ensures.y_after
