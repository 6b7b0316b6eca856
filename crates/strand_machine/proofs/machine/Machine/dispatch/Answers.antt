use Rattle.std.proofs.Common.{◌≡◌, ◌∙◌, sym, ap, subst}
use Rattle.strand_inputs.specs.declared.step.Step.TheVariants.{Dispatch}
use Rattle.strand_rules.specs.declared.turn.Turn.TheVariants.{Done}
use Rattle.strand_rules.specs.Cycle.{IsReached, front, item_after, turn}
use Rattle.strand_rules.specs.Machine.{FrontIs, made_to}
use Rattle.strand_rules.specs.Pipeline.{with_memory}
use Rattle.strand_rules.proofs.WithMemory.{front_without, item_after_with}
use Rattle.strand_machine.specs.KeptMachine.{IsKeptRingMachine, seen}
use Rattle.strand_machine.specs.Machine.{RingMachine}
use Rattle.strand_machine.specs.Changed.{with_dispatched}
use Rattle.strand_machine.specs.Stand.{PartsSeen}
use Rattle.strand_machine.proofs.Turn.Item.{IsFirst, can_take, dispatch_reached, first_inside, has_wait, holds_inside, rooms_after, stand_after}
use Rattle.strand_machine.proofs.Stand.Machine.{held_moved}
use Rattle.strand_machine.proofs.machine.Machine.dispatch.Goals.{After-dispatch-2, After-keeps}
use Rattle.strand_machine.proofs.machine.Machine.dispatch.Goals as goal

first : (c : After-keeps) → IsFirst (seen c.self.inside) c.args.n c.args.item
first c = first_inside (seen c.self.inside) c.args.self.now c.args.n c.args.item c.self.view_is (holds_inside c.self.inside c.self.invariant c.keeps.ensures.kept c.keeps.ensures.buffers) c.requires.core c.requires.front

done : (c : After-keeps) → turn (seen c.self.inside).machine.config (seen c.self.inside).machine.program (seen c.self.inside).machine.state (Dispatch c.args.n) ≡ Done
done c = ap (λ (r : RingMachine). turn r.machine.config r.machine.program r.machine.state (Dispatch c.args.n)) c.self.view_is ∙ c.requires.done

pub dispatch-requires-clause-front : goal.dispatch-requires-clause-front
dispatch-requires-clause-front c =
    let r = seen c.self.inside in
    front_without c.self.inside.parts.cache.memory r.machine.config c.self.inside.pipeline.state c.args.n c.persist_of-persist.result
    (subst (λ (r : RingMachine). FrontIs r.machine.config r.machine.state c.args.n c.persist_of-persist.result) (sym c.self.view_is) c.persist_of-persist.ensures)

pub dispatch-requires-clause-reached : goal.dispatch-requires-clause-reached
dispatch-requires-clause-reached c =
    let r = seen c.self.inside in
    let at = (goal.at.dispatch-requires-clause-reached c).After-keeps in
    let memory = c.self.inside.parts.cache.memory in
    let s = c.self.inside.pipeline.state in
    (memory, subst (IsReached r.machine.config r.machine.program) (item_after_with memory s c.args.n (front r.machine.config s c.args.n)) (dispatch_reached r c.args.n c.args.item (first at) (done at)))

pub dispatch-requires-2-clause-take : goal.dispatch-requires-2-clause-take
dispatch-requires-2-clause-take c = let at = (goal.at.dispatch-requires-2-clause-take c).After-keeps in can_take (seen c.self.inside) c.args.n c.args.item (first at) (done at)

pub dispatch-requires-2-clause-wait : goal.dispatch-requires-2-clause-wait
dispatch-requires-2-clause-wait c = let at = (goal.at.dispatch-requires-2-clause-wait c).After-keeps in has_wait (seen c.self.inside) c.args.n c.args.item (first at)

-- the machine is that of the rules after it
moved : (c : After-dispatch-2) → with_memory c.dispatch-2.new.self.cache.memory c.dispatch.new.self
    ≡ made_to (seen c.self.inside).machine (item_after (seen c.self.inside).machine.state c.args.n (front c.self.inside.pipeline.config (seen c.self.inside).machine.state c.args.n))
moved c =
    let r = seen c.self.inside in
    let memory = c.self.inside.parts.cache.memory in
    ap (λ (p : PartsSeen). with_memory p.cache.memory c.dispatch.new.self) c.dispatch-2.ensures ∙ ap (with_memory memory) c.dispatch.ensures
    ∙ ap (made_to r.machine) (sym (item_after_with memory c.self.inside.pipeline.state c.args.n (front r.machine.config r.machine.state c.args.n)))

-- what the fields keep
stays_kept : (c : After-dispatch-2) → IsFirst (seen c.self.inside) c.args.n c.args.item
    → turn (seen c.self.inside).machine.config (seen c.self.inside).machine.program (seen c.self.inside).machine.state (Dispatch c.args.n) ≡ Done
    → IsKeptRingMachine (record { pipeline = c.dispatch.new.self; parts = c.dispatch-2.new.self })
stays_kept c is_first is_done =
    let r = seen c.self.inside in
    let n = c.args.n in
    held_moved r (item_after r.machine.state n (front r.machine.config r.machine.state n)) c.dispatch.new.self c.dispatch-2.new.self (with_dispatched r.parts n c.args.item) (moved c) c.dispatch-2.ensures
    (stand_after r n c.args.item is_first) (rooms_after r n c.args.item is_first) is_first.holds.wait_room (dispatch_reached r n c.args.item is_first is_done) is_first.holds.extents

pub returns-clause-machine : goal.returns-clause-machine
returns-clause-machine c =
    moved (goal.at.returns-clause-machine c).After-dispatch-2 ∙ ap (λ (r : RingMachine). made_to r.machine (item_after r.machine.state c.args.n (front r.machine.config r.machine.state c.args.n))) c.self.view_is

pub returns-clause-parts : goal.returns-clause-parts
returns-clause-parts c = let at = goal.at.returns-clause-parts c in (stays_kept at.After-dispatch-2 (first at.After-keeps) (done at.After-keeps)).stand

pub invariant_of-self : goal.invariant_of-self
invariant_of-self c = let at = goal.at.invariant_of-self c in stays_kept at.After-dispatch-2 (first at.After-keeps) (done at.After-keeps)
