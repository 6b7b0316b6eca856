use Rattle.std.proofs.Common.{arith, subst, sym}
use Rattle.strand_buffer.specs.Ring.{KeptRing}
use Rattle.strand_buffer.proofs.RingInvariant.{kept_sent}
use Rattle.strand_buffer.proofs.ring.Ring.sent.Goals as goal

pub invariant_of-self : goal.invariant_of-self
invariant_of-self c =
    let old = c.self.inside in (
      subst (λ es. KeptRing es old.links.items old.room) (sym c.set_stage.ensures.entries) (kept_sent old.entries.items old.links.items old.room c.self.invariant.0 c.args.number),
      omega (arith, c.self.invariant, c.set_stage.ensures.room),
      c.self.invariant.2,
    )
