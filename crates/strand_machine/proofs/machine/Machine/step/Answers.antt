use Rattle.std.proofs.Common.{◌≤◌, subst}
use Rattle.strand_base.specs.declared.limits.TheConstants.{MOST_MEMORY}
use Rattle.strand_inputs.specs.declared.step.Step.TheVariants.{Write}
use Rattle.strand_rules.specs.Cycle.{IsReached}
use Rattle.strand_rules.proofs.Setup.{core_setup}
use Rattle.strand_rules.proofs.IsReached.{core_stands, reached_stands}
use Rattle.strand_machine.specs.Machine.{RingMachine}
use Rattle.strand_modules.specs.Seen.{bank_seen}
use Rattle.strand_machine.proofs.machine.Machine.step.Goals as goal

pub returns-in-Core-clause-setup : goal.returns-in-Core-clause-setup
returns-in-Core-clause-setup g c = core_setup c.args.self.now.machine c.step_core.new.self.machine (bank_seen (λ z. (goal.PmModule-dyn g z).holds z.1) c.args.bank.now) c.in-Core.n c.step_core.ensures.machine

pub returns-in-Core-clause-stands : goal.returns-in-Core-clause-stands
returns-in-Core-clause-stands g c =
    let m = c.args.self.now.machine in
    let reached : IsReached m.config m.program m.state = subst (λ (o : RingMachine). IsReached o.machine.config o.machine.program o.machine.state) c.self.view_is c.self.invariant.reached in
    core_stands m c.step_core.new.self.machine c.in-Core.n (bank_seen (λ z. (goal.PmModule-dyn g z).holds z.1) c.args.bank.now) reached c.step_core.ensures.machine

pub returns-in-Write-clause-stands : goal.returns-in-Write-clause-stands
returns-in-Write-clause-stands g c =
    let m = c.args.self.now.machine in
    let reached : IsReached m.config m.program m.state = subst (λ (o : RingMachine). IsReached o.machine.config o.machine.program o.machine.state) c.self.view_is c.self.invariant.reached in
    let small : m.program.sizes.volatile ≤ MOST_MEMORY = subst (λ (o : RingMachine). o.machine.program.sizes.volatile ≤ MOST_MEMORY) c.self.view_is c.keeps.ensures.kept.few_volatile in
    reached_stands m c.step_write.new.self.machine (Write c.in-Write.j) c.step_write.result (bank_seen (λ z. (goal.PmModule-dyn g z).holds z.1) c.args.bank.now) (bank_seen (λ z. (goal.PmModule-dyn g z).holds z.1) c.step_write.new.bank) reached small c.step_write.ensures.step
