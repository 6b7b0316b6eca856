use Rattle.std.proofs.Common.{◌<◌, sym, ap, subst, ◌∙◌, length}
use Rattle.std.specs.Prelude.{slice_get}
use Rattle.strand_events.specs.Trace.{persists_of}
use Rattle.strand_machine.proofs.Turn.SendWrite.{slot_by, slot_within}
use Rattle.strand_machine.proofs.machine.Machine.persist_in.Goals as goal

pub persist_at-requires : goal.persist_at-requires
persist_at-requires c =
    subst (λ t. c.args.slot.number < length (persists_of t)) (sym c.trace.ensures.events)
    (slot_within c.args.self.now c.keeps.ensures.holds c.args.n c.args.b c.args.j c.args.slot c.requires.core c.requires.buffer c.requires.slot)

pub returns : goal.returns
returns c =
    slot_by c.args.self.now c.keeps.ensures.holds c.args.n c.args.b c.args.j c.args.slot c.requires.core c.requires.buffer c.requires.slot c.persist_at.result
    (ap (λ t. slice_get (persists_of t) c.args.slot.number) (sym c.trace.ensures.events) ∙ c.persist_at.ensures)
