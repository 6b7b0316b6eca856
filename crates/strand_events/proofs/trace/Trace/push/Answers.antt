use Rattle.std.proofs.Common.{◌≡◌, ◌<◌, ap, length, refl, ◌∙◌, arith}
use Rattle.strand_events.specs.Trace.{core_of}
use Rattle.strand_events.proofs.TraceInvariant.{persists_most, can_rise, kept_next}
use Rattle.strand_events.proofs.trace.Trace.push.Goals as goal

pub note_persist-requires : goal.note_persist-requires
note_persist-requires c =
    let kept = c.self.invariant.0 in
    omega (arith, c.requires.room, ap (λ s. length s.events) c.self.view_is, ap (λ s. s.room) c.self.view_is, c.self.invariant.2, c.self.inside.persists.ok.0, ap length kept.persists_are, persists_most c.self.inside.events.items)

pub counts_after-requires : goal.counts_after-requires
counts_after-requires c =
    let lt : length c.self.inside.events.items < c.self.inside.room = omega (arith, c.requires.room, ap (λ s. length s.events) c.self.view_is, ap (λ s. s.room) c.self.view_is) in
    rw c.core-core.ensures (can_rise c.self.inside.events.items c.self.inside.room c.self.inside.persists.items c.self.inside.counts.items c.self.inside.latest (core_of c.args.e) c.self.invariant.0 lt c.requires.core)

pub invariant_of-self : goal.invariant_of-self
invariant_of-self c =
    let lt : length c.self.inside.events.items < c.self.inside.room = omega (arith, c.requires.room, ap (λ s. length s.events) c.self.view_is, ap (λ s. s.room) c.self.view_is) in
    let number : c.len-number.result ≡ length c.self.inside.events.items = c.len-number.ensures ∙ c.self.inside.events.ok.0 in (
      rw (c.push_reserved-2.ensures.items, c.note_persist.ensures.items, c.push_reserved.ensures.items, number, c.core-core.ensures) (kept_next c.self.inside.events.items c.self.inside.room c.self.inside.persists.items c.self.inside.counts.items c.self.inside.latest c.args.e _ c.counts_after.result c.self.invariant.0 lt (c.requires.core, c.requires.persist) refl (rw c.core-core.ensures at c.counts_after.ensures)),
      rw c.push_reserved-2.ensures.capacity c.self.invariant.1,
      rw c.note_persist.ensures.capacity c.self.invariant.2,
      rw c.push_reserved.ensures.capacity c.self.invariant.3,
    )
