use Rattle.std.proofs.Common.{◌<◌, ◌∷◌, ◌++◌, [], List, arith, length, refl, subst, sym}
use Rattle.strand_buffer.specs.declared.entry.Entry.{Entry}
use Rattle.strand_buffer.specs.declared.entry.Stage.TheVariants.{Buffered}
use Rattle.strand_buffer.specs.Links.{IsLink}
use Rattle.strand_buffer.specs.Ring.{AreUpTo, KeptRing, RingSeen}
use Rattle.strand_buffer.proofs.RingInvariant.{kept_accepted}
use Rattle.strand_buffer.proofs.ring.Ring.accept.Goals as goal

pub invariant_of-self : goal.invariant_of-self
invariant_of-self c =
    let old = c.self.inside in
    let e : Entry = record { number = c.args.number; word = c.args.word; value = c.args.value; epoch = c.args.epoch; wait = c.args.wait; stage = Buffered } in
    let distance = c.distance_to-distance.result in
    let link : IsLink old.entries.items (length old.entries.items) c.args.word distance = subst (λ (es : List Entry). IsLink es (length es) c.args.word distance) c.deref.ensures.value c.distance_to-distance.ensures in
    let last : AreUpTo old.entries.items c.args.epoch = subst (λ (r : RingSeen). AreUpTo r.entries c.args.epoch) (sym c.self.view_is) c.requires.epoch in
    let kept = kept_accepted old.entries.items old.links.items old.room c.self.invariant.0 e refl last distance (subst (λ (r : RingSeen). length r.entries < r.room) (sym c.self.view_is) c.requires.room) link in (
      subst (λ (es : List Entry). KeptRing es c.push_reserved.new.self.items old.room) (sym c.push_reserved-2.ensures.items)
          (subst (λ links. KeptRing (old.entries.items ++ e ∷ []) links old.room) (sym c.push_reserved.ensures.items) kept),
      omega (arith, c.self.invariant.1, c.push_reserved-2.ensures.capacity),
      omega (arith, c.self.invariant.2, c.push_reserved.ensures.capacity),
    )
