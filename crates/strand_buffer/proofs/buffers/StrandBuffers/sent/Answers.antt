use Rattle.std.proofs.Common.{◌<◌, ◌∙◌, ap, length, map, subst, sym}
use Rattle.std.specs.Prelude.{slice_set}
use Rattle.strand_buffer.specs.declared.entry.Stage.TheVariants.{Sent}
use Rattle.strand_buffer.specs.Buffers.{Buffers, IsSent, with_stage, sent}
use Rattle.strand_buffer.specs.KeptBuffers.{seen, entries_of}
use Rattle.strand_buffer.proofs.Sends.{eligible_there, sent_is}
use Rattle.strand_buffer.proofs.OneRing.{changed_kept, changed_list, old_list, ring_there, upto_staged, with_lists}
use Rattle.strand_buffer.proofs.buffers.StrandBuffers.sent.Goals as goal

pub invariant_of-self : goal.invariant_of-self
invariant_of-self c =
    let old = c.index_mut-ring.result.now in
    let es = map (with_stage Sent c.args.number) old.entries in
    let lt : c.args.b < length c.self.inside.rings.items = ring_there c.self.inside.rings.items c.args.self.now.lists c.args.b (ap (λ (x : Buffers). x.lists) c.self.view_is) (eligible_there c.args.self.now c.args.b c.args.number c.args.durable.now c.requires) in
    changed_kept c.self.inside.rings.items c.args.b old c.sent.new.self es lt c.index_mut-ring.ensures.value c.sent.ensures c.self.inside.ring c.self.inside.strand c.self.inside.epoch c.self.invariant
    (upto_staged Sent c.args.number old.entries c.self.inside.epoch)

pub returns-clause-buffers : goal.returns-clause-buffers
returns-clause-buffers c =
    let old = c.index_mut-ring.result.now in
    let es = map (with_stage Sent c.args.number) old.entries in
    let lt : c.args.b < length c.self.inside.rings.items = ring_there c.self.inside.rings.items c.args.self.now.lists c.args.b (ap (λ (x : Buffers). x.lists) c.self.view_is) (eligible_there c.args.self.now c.args.b c.args.number c.args.durable.now c.requires) in
    with_lists (seen c.self.inside) _ _ (
    changed_list c.self.inside.rings.items c.args.b old c.sent.new.self es lt c.index_mut-ring.ensures.value c.sent.ensures
    ∙ ap (λ xs. slice_set (map entries_of c.self.inside.rings.items) c.args.b (map (with_stage Sent c.args.number) xs)) (old_list c.self.inside.rings.items c.args.b old c.sent.new.self es lt c.index_mut-ring.ensures.value c.sent.ensures)
    )
    ∙ ap (λ (bs : Buffers). sent bs c.args.b c.args.number) c.self.view_is

pub returns-clause-sent : goal.returns-clause-sent
returns-clause-sent c = subst (λ (bs : Buffers). IsSent bs c.args.b c.args.number) (sym (returns-clause-buffers c)) (sent_is c.args.self.now c.args.b c.args.number c.args.durable.now c.requires)
