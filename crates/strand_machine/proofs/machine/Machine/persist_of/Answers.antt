use Rattle.std.proofs.Common.{◌∙◌, inl, inr, List, length, sym, ap, arith}
use Rattle.std.specs.Prelude.{slice_get}
use Rattle.strand_events.specs.declared.event.Event.{Event}
use Rattle.strand_events.specs.Trace.{persists_of}
use Rattle.strand_machine.proofs.Turn.Item.{IsFirst, is_persist_item, persist_within, front_persist, front_other}
use Rattle.strand_machine.proofs.machine.Machine.persist_of.Goals.{After-keeps}
use Rattle.strand_machine.proofs.machine.Machine.persist_of.Goals as goal

first : (c : After-keeps) → IsFirst c.args.self.now c.args.n c.args.item
first c = record { holds = c.keeps.ensures.holds; core = c.requires.core; front = c.requires.front }

pub persist_at-requires : goal.persist_at-requires
persist_at-requires c =
    let is_first = first (goal.at.persist_at-requires c).After-keeps in
    let within = persist_within c.args.self.now c.args.n c.args.item is_first c.in-Persist.number c.in-Persist.word c.in-Persist.value c.in-Persist.epoch c.in-Persist.is in
    omega (arith, within, ap (λ (t : List Event). length (persists_of t)) c.trace.ensures.events)

pub returns-in-Persist : goal.returns-in-Persist
returns-in-Persist c =
    let at = ap (λ (t : List Event). slice_get (persists_of t) c.in-Persist.number) (sym c.trace.ensures.events) ∙ c.persist_at.ensures in
    front_persist c.args.self.now c.args.n c.args.item (first (goal.at.returns-in-Persist c).After-keeps) c.in-Persist.number c.in-Persist.word c.in-Persist.value c.in-Persist.epoch c.persist_at.result c.in-Persist.is at

pub returns-in-Barrier : goal.returns-in-Barrier
returns-in-Barrier c =
    front_other c.args.self.now c.args.n c.args.item (first (goal.at.returns-in-Barrier c).After-keeps) (elim c.in-Barrier.is [ inl is ↦ ap is_persist_item is | inr is ↦ ap is_persist_item is ])
