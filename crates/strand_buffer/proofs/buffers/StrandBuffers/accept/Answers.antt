use Rattle.std.proofs.Common.{◌≡◌, ◌∙◌, sym, ap, arith, length, refl}
use Rattle.std.specs.Prelude.{◌%◌}
use Rattle.std.proofs.lemmas.List.{length-map}
use Rattle.std.proofs.lemmas.Nat.{mod_below}
use Rattle.strand_buffer.specs.Buffers.{Buffers, accepted, current}
use Rattle.strand_buffer.specs.KeptBuffers.{seen, entries_of}
use Rattle.strand_buffer.proofs.OneRing.{accepted_as}
use Rattle.strand_buffer.proofs.buffers.StrandBuffers.accept.Goals as goal

pub returns : goal.returns
returns c =
    let rings = c.self.inside.rings.items in
    let old = c.index_mut-ring.result.now in
    let b = c.self.inside.strand % c.len.result in
    let counted : c.len.result ≡ length rings = omega (arith, c.len.ensures) in
    let at : b ≡ current (seen c.self.inside) = ap (λ k. c.self.inside.strand % k) (counted ∙ sym (length-map rings entries_of)) in
    accepted_as (seen c.self.inside) rings b old c.accept.new.self c.args.number c.args.word c.args.value c.args.epoch c.args.wait refl at (omega (arith, mod_below c.self.inside.strand c.len.result (omega (arith, c.self.invariant.some, c.len.ensures)), c.len.ensures)) c.index_mut-ring.ensures.value c.accept.ensures
    ∙ ap (λ (bs : Buffers). accepted bs c.args.number c.args.word c.args.value c.args.epoch c.args.wait) c.self.view_is
