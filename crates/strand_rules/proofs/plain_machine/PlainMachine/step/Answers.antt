use Rattle.std.proofs.Common.{refl, sym, subst}
use Rattle.strand_inputs.specs.declared.step.Step.TheVariants.{Dispatch, Send, Write}
use Rattle.strand_modules.specs.Seen.{bank_seen}
use Rattle.strand_rules.specs.Cycle.{IsReached}
use Rattle.strand_rules.specs.Machine.{Machine, StandsOn, StepLeaves}
use Rattle.strand_rules.specs.Pipeline.{with_memory}
use Rattle.strand_rules.proofs.PlainSteps.{dispatch_steps, send_steps, stepped_held, steps_held}
use Rattle.strand_rules.proofs.Setup.{core_setup}
use Rattle.strand_rules.proofs.IsReached.{core_stands, reached_stands}
use Rattle.strand_rules.proofs.WithMemory.{steps_with}
use Rattle.strand_rules.proofs.plain_machine.PlainMachine.step.Goals as goal

pub invariant_of-self : goal.invariant_of-self
invariant_of-self g c = stepped_held c.self.inside c.step_dispatch.new.self (Dispatch c.in-Dispatch.n) tt c.self.invariant c.step_dispatch.ensures.machine

pub invariant_of-self-in-Send : goal.invariant_of-self-in-Send
invariant_of-self-in-Send g c = stepped_held c.self.inside c.step_send.new.self (Send c.in-Send.n c.in-Send.b c.in-Send.j) tt c.self.invariant c.step_send.ensures.machine

pub invariant_of-self-in-Write : goal.invariant_of-self-in-Write
invariant_of-self-in-Write g c = steps_held c.self.inside c.step_write.new.self (Write c.in-Write.j) tt c.self.invariant _ _ c.step_write.result c.step_write.ensures

pub returns-in-Core-clause-setup : goal.returns-in-Core-clause-setup
returns-in-Core-clause-setup g c = core_setup c.args.self.now c.step_core.new.self _ c.in-Core.n c.step_core.ensures.machine

pub returns-in-Core-clause-stands : goal.returns-in-Core-clause-stands
returns-in-Core-clause-stands g c =
    let m = c.args.self.now in
    let reached : IsReached m.config m.program m.state = subst (λ (m : Machine). IsReached m.config m.program m.state) c.self.view_is c.self.invariant.reached in
    core_stands m c.step_core.new.self c.in-Core.n (bank_seen (λ z. (goal.PmModule-dyn g z).holds z.1) c.args.bank.now) reached c.step_core.ensures.machine

pub returns-in-Dispatch-clause-step : goal.returns-in-Dispatch-clause-step
returns-in-Dispatch-clause-step g c =
    let m = c.self.inside in
    let new = c.step_dispatch.new.self in
    let bank = bank_seen (λ z. (goal.PmModule-dyn g z).holds z.1) c.args.bank.now in
    subst (λ step. StepLeaves c.args.self.now (with_memory m.memory new) bank bank step c.step_dispatch.result) (sym c.in-Dispatch.is)
    (steps_with m.memory m.pipeline new c.args.self.now bank bank (Dispatch c.in-Dispatch.n) c.step_dispatch.result tt c.self.view_is
    (dispatch_steps m.pipeline new bank c.in-Dispatch.n c.step_dispatch.result c.step_dispatch.ensures.turn c.step_dispatch.ensures.machine))

pub returns-in-Send-clause-step : goal.returns-in-Send-clause-step
returns-in-Send-clause-step g c =
    let m = c.self.inside in
    let new = c.step_send.new.self in
    let bank = bank_seen (λ z. (goal.PmModule-dyn g z).holds z.1) c.args.bank.now in
    subst (λ step. StepLeaves c.args.self.now (with_memory m.memory new) bank bank step c.step_send.result) (sym c.in-Send.is)
    (steps_with m.memory m.pipeline new c.args.self.now bank bank (Send c.in-Send.n c.in-Send.b c.in-Send.j) c.step_send.result tt c.self.view_is
    (send_steps m.pipeline new bank c.in-Send.n c.in-Send.b c.in-Send.j c.step_send.result c.step_send.ensures.turn c.step_send.ensures.machine))

pub returns-in-Write-clause-step : goal.returns-in-Write-clause-step
returns-in-Write-clause-step g c =
    let m = c.self.inside in
    let new = c.step_write.new.self in
    let bank = bank_seen (λ z. (goal.PmModule-dyn g z).holds z.1) c.args.bank.now in
    let bank' = bank_seen (λ z. (goal.PmModule-dyn g z).holds z.1) c.step_write.new.bank in
    subst (λ step. StepLeaves c.args.self.now (with_memory m.memory new) bank bank' step c.step_write.result) (sym c.in-Write.is)
    (steps_with m.memory m.pipeline new c.args.self.now bank bank' (Write c.in-Write.j) c.step_write.result tt c.self.view_is c.step_write.ensures)

pub returns-in-Write-clause-stands : goal.returns-in-Write-clause-stands
returns-in-Write-clause-stands g c =
    let m = c.self.inside in
    let old = with_memory m.memory m.pipeline in
    let new = with_memory m.memory c.step_write.new.self in
    let bank = bank_seen (λ z. (goal.PmModule-dyn g z).holds z.1) c.args.bank.now in
    let bank' = bank_seen (λ z. (goal.PmModule-dyn g z).holds z.1) c.step_write.new.bank in
    subst (λ (old : Machine). StandsOn old.program.sizes.persistent old.state new.state bank bank') c.self.view_is
    (reached_stands old new (Write c.in-Write.j) c.step_write.result bank bank' c.self.invariant.reached c.keeps.ensures.kept.few_volatile
    (steps_with m.memory m.pipeline c.step_write.new.self old bank bank' (Write c.in-Write.j) c.step_write.result tt refl c.step_write.ensures))
