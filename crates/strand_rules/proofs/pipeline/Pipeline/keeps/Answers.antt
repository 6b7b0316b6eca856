use Rattle.std.proofs.Common.{subst}
use Rattle.strand_rules.specs.Kept.{IsKeptMachine}
use Rattle.strand_rules.specs.Machine.{Machine}
use Rattle.strand_rules.specs.Pipeline.{IsReachedWithSome}
use Rattle.strand_rules.proofs.pipeline.Pipeline.keeps.Goals as goal

pub returns-clause-reached : goal.returns-clause-reached
returns-clause-reached c = subst (λ (m : Machine). IsReachedWithSome m.config m.program m.state) c.self.view_is c.self.invariant.reached

pub returns-clause-kept : goal.returns-clause-kept
returns-clause-kept c = subst IsKeptMachine c.self.view_is c.self.invariant.kept
