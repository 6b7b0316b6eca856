use Rattle.std.proofs.Common.{refl, sym}
use Rattle.strand_isa.proofs.CheckValid.{valid_is}
use Rattle.strand_isa.proofs.instr.Instr.check.Goals as goal

pub returns-in-None-clause-valid : goal.returns-in-None-clause-valid
returns-in-None-clause-valid c = (λ _. (valid_is c.args.self.now).0 (sym c.in-None.ensures), λ _. refl)

pub returns-in-Some-clause-valid : goal.returns-in-Some-clause-valid
returns-in-Some-clause-valid c =
    let some = c.in-Some.ensures in
    (λ e. absurd cc, λ v. let none = (valid_is c.args.self.now).1 v in absurd cc)
