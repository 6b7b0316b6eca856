use Rattle.std.proofs.Common.{◌≡◌, ◌∙◌, List, sym, ap, subst}
use Rattle.std.specs.Prelude.{IfSome}
use Rattle.strand_buffer.specs.declared.entry.Entry.{Entry}
use Rattle.strand_buffer.specs.declared.entry.Slot.{Slot}
use Rattle.strand_buffer.specs.Buffers.{Buffers, IsEligible, found_slot, list_in}
use Rattle.strand_buffer.proofs.Eligible.{found_eligible}
use Rattle.strand_buffer.proofs.OneRing.{ring_list, ring_there}
use Rattle.strand_buffer.proofs.buffers.StrandBuffers.eligible.Goals as goal

pub returns-clause-eligible : goal.returns-clause-eligible
returns-clause-eligible c =
    let ring = c.index-ring.result.now in
    let lt = ring_there c.self.inside.rings.items c.args.self.now.lists c.args.b (ap (λ (x : Buffers). x.lists) c.self.view_is) c.requires in
    let list : ring.entries ≡ list_in c.args.self.now c.args.b = ring_list c.self.inside.rings.items c.args.b ring lt c.index-ring.ensures ∙ ap (λ (bs : Buffers). list_in bs c.args.b) c.self.view_is in
    let found : c.eligible.result ≡ found_slot (list_in c.args.self.now c.args.b) c.args.j c.args.durable.now =
    c.eligible.ensures ∙ ap (λ (es : List Entry). found_slot es c.args.j c.args.durable.now) list in
    subst (λ o. IfSome o (λ (s : Slot). IsEligible c.args.self.now c.args.b s.number c.args.durable.now)) (sym found) (found_eligible c.args.durable.now (list_in c.args.self.now c.args.b) c.args.j)
