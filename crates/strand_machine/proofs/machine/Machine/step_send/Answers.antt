use Rattle.std.proofs.Common.{false, true, sym, ap, ◌∙◌, length}
use Rattle.std.specs.Prelude.{nat_lt}
use Rattle.strand_inputs.specs.declared.step.Step.TheVariants.{Send}
use Rattle.strand_control.specs.Flight.{Flight}
use Rattle.strand_rules.specs.declared.turn.Cause.TheVariants as causes
use Rattle.strand_rules.specs.Cycle.{send_after}
use Rattle.strand_rules.specs.Machine.{made_to}
use Rattle.strand_machine.proofs.Turn.SendWrite.{no_slot, send_turned}
use Rattle.strand_machine.proofs.Stand.Machine.{bubble_stepped, done_stepped}
use Rattle.strand_machine.proofs.machine.Machine.step_send.Goals as goal

pub returns-in_default : goal.returns-in_default
returns-in_default c =
    let r = c.args.self.now in
    let turned = no_slot r c.keeps.ensures.holds c.args.n c.args.b c.args.j c.requires.core c.requires.buffer (sym c.eligible.ensures ∙ c.in_default.is) in
    record {
      turn = c.bubble.ensures.turn ∙ sym turned;
      machine = c.bubble.ensures.machine ∙ bubble_stepped r.machine (Send c.args.n c.args.b c.args.j) causes.NoEntry turned;
      parts = c.bubble.ensures.parts;
    }

pub returns-then-not-room : goal.returns-then-not-room
returns-then-not-room c =
    let r = c.args.self.now in
    let turned = send_turned r c.keeps.ensures.holds c.args.n c.args.b c.args.j c.in-Some.slot c.requires.core c.requires.buffer (sym c.eligible.ensures ∙ c.in-Some.is) false
    (ap (λ (f : Flight). nat_lt (length f.requests) f.limit) (sym c.control.ensures.part) ∙ sym c.room.ensures ∙ c.if-not-room.true) in
    record {
      turn = c.bubble-then-not-room.ensures.turn ∙ sym turned;
      machine = c.bubble-then-not-room.ensures.machine ∙ bubble_stepped r.machine (Send c.args.n c.args.b c.args.j) causes.FlightFull turned;
      parts = c.bubble-then-not-room.ensures.parts;
    }

pub returns : goal.returns
returns c =
    let r = c.args.self.now in
    let turned = send_turned r c.keeps.ensures.holds c.args.n c.args.b c.args.j c.in-Some.slot c.requires.core c.requires.buffer (sym c.eligible.ensures ∙ c.in-Some.is) true
    (ap (λ (f : Flight). nat_lt (length f.requests) f.limit) (sym c.control.ensures.part) ∙ sym c.room.ensures ∙ c.if-not-room.false) in
    record {
      turn = sym turned;
      machine = c.send.ensures.machine ∙ ap (λ o. made_to r.machine (send_after r.machine.state o)) (sym c.persist_in-p.ensures.at) ∙ done_stepped r.machine (Send c.args.n c.args.b c.args.j) turned;
      parts = c.send.ensures.parts;
    }
