use Rattle.std.proofs.Common.{◌≡◌, sym, subst, ap, ◌∙◌}
use Rattle.std.specs.Prelude.{Some}
use Rattle.strand_rules.specs.Visible.{next_plan}
use Rattle.strand_rules.specs.Cycle.{IsReached, made_turn}
use Rattle.strand_rules.specs.Machine.{Machine}
use Rattle.strand_rules.proofs.IsReached.{core_reached}
use Rattle.strand_rules.proofs.WithMemory.{made_turn_with}
use Rattle.strand_rules.proofs.plain_machine.PlainMachine.step_core.Goals as goal

pub retire-requires-clause-reached : goal.retire-requires-clause-reached
retire-requires-clause-reached c =
    let m = c.args.self.now in
    let event = c.next_event-event.result in
    let reached : IsReached m.config m.program m.state = subst (λ (m : Machine). IsReached m.config m.program m.state) c.self.view_is c.self.invariant.reached in
    let next : Some c.asked-plan.result ≡ next_plan m.program m.state.now c.args.n =
    ap Some c.asked-plan.ensures.asks ∙ c.in-Some.ensures.plan ∙ ap (λ (m : Machine). next_plan m.program m.state.now c.args.n) c.self.view_is in
    let turned : c.made_turn-turn.result ≡ made_turn m.config m.state c.args.n event =
    c.made_turn-turn.ensures
    ∙ ap (λ (m : Machine). made_turn m.config m.state c.args.n event) c.new.ensures
    ∙ sym (made_turn_with c.self.inside.memory c.self.inside.pipeline.config c.self.inside.pipeline.state c.args.n event)
    ∙ ap (λ (m : Machine). made_turn m.config m.state c.args.n event) c.self.view_is in
    core_reached m c.args.n c.asked-plan.result event reached next c.next_event-event.ensures.event (sym turned ∙ c.in-Done.is)
