use Rattle.std.proofs.Common.{◌<◌, ◌∙◌, ap, length, map}
use Rattle.std.specs.Prelude.{slice_set}
use Rattle.strand_buffer.specs.declared.entry.Stage.TheVariants.{Released}
use Rattle.strand_buffer.specs.Entries.{trimmed}
use Rattle.strand_buffer.specs.Buffers.{Buffers, with_stage, released}
use Rattle.strand_buffer.specs.KeptBuffers.{seen, entries_of}
use Rattle.strand_buffer.proofs.Sends.{sent_there}
use Rattle.strand_buffer.proofs.OneRing.{changed_kept, changed_list, old_list, ring_there, upto_staged, upto_trimmed, with_lists}
use Rattle.strand_buffer.proofs.buffers.StrandBuffers.release.Goals as goal

pub invariant_of-self : goal.invariant_of-self
invariant_of-self c =
    let old = c.index_mut-ring.result.now in
    let es = trimmed (map (with_stage Released c.args.number) old.entries) in
    let lt : c.args.b < length c.self.inside.rings.items = ring_there c.self.inside.rings.items c.args.self.now.lists c.args.b (ap (λ (x : Buffers). x.lists) c.self.view_is) (sent_there c.args.self.now c.args.b c.args.number c.requires) in
    changed_kept c.self.inside.rings.items c.args.b old c.release.new.self es lt c.index_mut-ring.ensures.value c.release.ensures c.self.inside.ring c.self.inside.strand c.self.inside.epoch c.self.invariant
    (λ h. upto_trimmed (map (with_stage Released c.args.number) old.entries) c.self.inside.epoch (upto_staged Released c.args.number old.entries c.self.inside.epoch h))

pub returns : goal.returns
returns c =
    let old = c.index_mut-ring.result.now in
    let es = trimmed (map (with_stage Released c.args.number) old.entries) in
    let lt : c.args.b < length c.self.inside.rings.items = ring_there c.self.inside.rings.items c.args.self.now.lists c.args.b (ap (λ (x : Buffers). x.lists) c.self.view_is) (sent_there c.args.self.now c.args.b c.args.number c.requires) in
    with_lists (seen c.self.inside) _ _ (
    changed_list c.self.inside.rings.items c.args.b old c.release.new.self es lt c.index_mut-ring.ensures.value c.release.ensures
    ∙ ap (λ xs. slice_set (map entries_of c.self.inside.rings.items) c.args.b (trimmed (map (with_stage Released c.args.number) xs))) (old_list c.self.inside.rings.items c.args.b old c.release.new.self es lt c.index_mut-ring.ensures.value c.release.ensures)
    )
    ∙ ap (λ (bs : Buffers). released bs c.args.b c.args.number) c.self.view_is
