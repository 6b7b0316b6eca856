use Rattle.std.proofs.Common.{◌≡◌, ◌≤◌, ◌∙◌, List, arith, ap, drop, length, map, subst, sym}
use Rattle.strand_buffer.specs.declared.entry.Entry.{Entry}
use Rattle.strand_buffer.specs.declared.entry.Stage.TheVariants.{Released}
use Rattle.strand_buffer.specs.Entries.{trimmed}
use Rattle.strand_buffer.specs.Buffers.{with_stage}
use Rattle.strand_buffer.specs.Ring.{KeptRing}
use Rattle.strand_buffer.proofs.RingInvariant.{kept_released}
use Rattle.strand_buffer.proofs.ring.Ring.release.Goals as goal

pub invariant_of-self : goal.invariant_of-self
invariant_of-self c =
    let old = c.self.inside in
    let free = c.released_in_front-free.result in
    let staged : c.deref.result.now ≡ map (with_stage Released c.args.number) old.entries.items = c.deref.ensures.value ∙ c.set_stage.ensures.entries in
    let rest : drop free (map (with_stage Released c.args.number) old.entries.items) ≡ trimmed (map (with_stage Released c.args.number) old.entries.items) =
    subst (λ (es : List Entry). drop free es ≡ trimmed es) staged c.released_in_front-free.ensures.rest in
    let within : free ≤ length (map (with_stage Released c.args.number) old.entries.items) = subst (λ (es : List Entry). free ≤ length es) staged c.released_in_front-free.ensures.within in
    let kept = kept_released old.entries.items old.links.items old.room c.self.invariant.0 c.args.number free rest within in (
      subst (λ (es : List Entry). KeptRing es c.drop_front-2.new.list.items old.room) (sym (c.drop_front.ensures.items ∙ ap (drop free) c.set_stage.ensures.entries))
          (subst (λ links. KeptRing (drop free (map (with_stage Released c.args.number) old.entries.items)) links old.room) (sym c.drop_front-2.ensures.items) kept),
      omega (arith, c.self.invariant.1, c.set_stage.ensures.room, c.drop_front.ensures.room),
      omega (arith, c.self.invariant.2, c.drop_front-2.ensures.room),
    )
