use Rattle.std.proofs.Common.{◌≡◌, ◌<◌, sym, ap, subst, ◌∙◌, length, arith}
use Rattle.std.specs.Prelude.{Some}
use Rattle.std.proofs.lemmas.Bool.{ne_eqb}
use Rattle.std.proofs.lemmas.Nat.{mod_below}
use Rattle.strand_events.specs.Trace.{strand_number}
use Rattle.strand_rules.specs.Cycle.{IsReached, send_after}
use Rattle.strand_rules.specs.Machine.{made_to}
use Rattle.strand_rules.specs.Pipeline.{with_memory}
use Rattle.strand_rules.proofs.IsReached.{send_reached}
use Rattle.strand_machine.specs.Changed.{with_sent}
use Rattle.strand_machine.specs.KeptMachine.{IsKeptRingMachine, seen}
use Rattle.strand_machine.specs.Machine.{IsRingMachine, RingMachine, SlotIs}
use Rattle.strand_machine.specs.Stand.{PartsSeen, request_at}
use Rattle.strand_machine.proofs.Turn.Item.{holds_inside}
use Rattle.strand_machine.proofs.Turn.SendWrite.{waiting_taken}
use Rattle.strand_machine.proofs.Stand.Machine.{held_moved}
use Rattle.strand_machine.proofs.Stand.SendWrite.{stand_sent}
use Rattle.strand_machine.proofs.machine.Machine.send.Goals.{After-keeps, After-send-2}
use Rattle.strand_machine.proofs.machine.Machine.send.Goals as goal

holds : (c : After-keeps) → IsRingMachine (seen c.self.inside)
holds c = holds_inside c.self.inside c.self.invariant c.keeps.ensures.kept c.keeps.ensures.buffers

slot : (c : After-keeps) → SlotIs (seen c.self.inside) c.args.n c.args.b c.args.j c.args.slot c.args.p
slot c = subst (λ (r : RingMachine). SlotIs r c.args.n c.args.b c.args.j c.args.slot c.args.p) (sym c.self.view_is) c.requires.slot

reached : (c : After-keeps) → IsReached c.self.inside.pipeline.config c.self.inside.pipeline.program (send_after (seen c.self.inside).machine.state (Some c.args.p))
reached c =
    let m = (seen c.self.inside).machine in
    let room : length m.state.flight < m.config.flight = subst (λ (r : RingMachine). length r.machine.state.flight < r.machine.config.flight) (sym c.self.view_is) c.requires.flight in
    send_reached m c.args.n c.args.b c.args.j c.args.p (holds c).reached (sym (slot c).at) (ne_eqb (length m.state.flight) m.config.flight (λ e. omega (arith, room, e)))

pub send-requires-clause-buffered : goal.send-requires-clause-buffered
send-requires-clause-buffered c = (slot (goal.at.send-requires-clause-buffered c).After-keeps).buffered

pub send-requires-clause-reached : goal.send-requires-clause-reached
send-requires-clause-reached c = (c.self.inside.parts.cache.memory, reached (goal.at.send-requires-clause-reached c).After-keeps)

pub send-requires-2-clause-eligible : goal.send-requires-2-clause-eligible
send-requires-2-clause-eligible c = (slot (goal.at.send-requires-2-clause-eligible c).After-keeps).eligible

-- the machine is that of the rules after it
moved : (c : After-send-2) → with_memory c.send-2.new.self.cache.memory c.send.new.self ≡ made_to (seen c.self.inside).machine (send_after (seen c.self.inside).machine.state (Some c.args.p))
moved c = ap (λ (q : PartsSeen). with_memory q.cache.memory c.send.new.self) c.send-2.ensures ∙ ap (with_memory c.self.inside.parts.cache.memory) c.send.ensures

-- what the fields keep
stays_kept : (c : After-send-2) → IsRingMachine (seen c.self.inside) → SlotIs (seen c.self.inside) c.args.n c.args.b c.args.j c.args.slot c.args.p
    → IsReached c.self.inside.pipeline.config c.self.inside.pipeline.program (send_after (seen c.self.inside).machine.state (Some c.args.p))
    → IsKeptRingMachine (record { pipeline = c.send.new.self; parts = c.send-2.new.self })
stays_kept c all is comes =
    let r = seen c.self.inside in
    let m = r.machine in
    let p = c.args.p in
    let within = (waiting_taken r all p is.buffered).within in
    held_moved r (send_after m.state (Some p)) c.send.new.self c.send-2.new.self (with_sent r.parts (request_at m.config m.state p)) (moved c) (c.send-2.ensures ∙ ap (with_sent r.parts) is.request)
    (stand_sent m.config m.state p is.persist m.program.sizes r.parts all.stand is.core (mod_below (strand_number m.config.mode m.state.now.trace p) m.config.buffers all.buffers)
    (omega (arith, within, all.kept.buffered)) is.undone) all.rooms all.wait_room comes all.extents

pub returns-clause-machine : goal.returns-clause-machine
returns-clause-machine c = moved (goal.at.returns-clause-machine c).After-send-2 ∙ ap (λ (r : RingMachine). made_to r.machine (send_after r.machine.state (Some c.args.p))) c.self.view_is

pub returns-clause-parts : goal.returns-clause-parts
returns-clause-parts c = let at = goal.at.returns-clause-parts c in (stays_kept at.After-send-2 (holds at.After-keeps) (slot at.After-keeps) (reached at.After-keeps)).stand

pub invariant_of-self : goal.invariant_of-self
invariant_of-self c = let at = goal.at.invariant_of-self c in stays_kept at.After-send-2 (holds at.After-keeps) (slot at.After-keeps) (reached at.After-keeps)
