use Rattle.std.proofs.Common.{subst}
use Rattle.strand_exec.specs.declared.effect.Effect.{Effect}
use Rattle.strand_exec.specs.Effects.{IsAligned}
use Rattle.strand_exec.proofs.StoreMask.{stored_is}
use Rattle.strand_exec.proofs.planning.asked.Goals as goal

-- the merge of the plan's mask and bits puts the store's bytes in their place
pub returns-in-StoreTo-clause-stored : goal.returns-in-StoreTo-clause-stored
returns-in-StoreTo-clause-stored c =
    let aligned = subst (λ (e : Effect). IsAligned c.args.sizes e) c.in-StoreTo.is c.requires in
    rw c.in-StoreTo.is
    (λ old small.
    rw (c.store_mask.ensures, c.store_bits.ensures)
    (stored_is c.in-StoreTo.op c.in-StoreTo.address c.in-StoreTo.value old aligned.0 small))
