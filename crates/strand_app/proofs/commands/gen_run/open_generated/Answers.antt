use Rattle.std.proofs.Common.{◌∙◌, ap, subst, sym}
use Rattle.std.specs.Prelude.{Ok, Err}
use Rattle.std.specs.declared.result.Result.{Result}
use Rattle.std.proofs.lemmas.Result.{err_from_is_err_and}
use Rattle.strand_app.specs.declared.fetching.OpenFault.{OpenFault}
use Rattle.strand_app.specs.declared.opening.Setup.{Setup}
use Rattle.strand_app.specs.Commands.Gen.{gen_reads}
use Rattle.strand_app.specs.Generated.{IsGiven, generated}
use Rattle.strand_app.specs.Opening.{all_inputs, inputs_of}
use Rattle.strand_app.proofs.GenCommands.{cuts_off_all, not_generated}
use Rattle.strand_app.proofs.commands.gen_run.open_generated.Goals as goal

pub returns-in_err-all-clause-given : goal.returns-in_err-all-clause-given
returns-in_err-all-clause-given c =
    let e = err_from_is_err_and c.from_residual.result c.from_residual.ensures.1 in
    subst (λ (r : Result Setup OpenFault). IsGiven inputs_of (gen_reads c.args.bank c.args.seed c.args.size) r) (sym (e.1 ∙ ap Err e.2))
    (not_generated c.args.bank all_inputs inputs_of (generated c.args.seed c.args.size) c.in_err-all.field-0.0 c.in_err-all.ensures.given)

pub returns-in_err-cut_off-clause-given : goal.returns-in_err-cut_off-clause-given
returns-in_err-cut_off-clause-given c =
    let e = err_from_is_err_and c.from_residual-in_err-cut_off.result c.from_residual-in_err-cut_off.ensures.1 in
    subst (λ (r : Result Setup OpenFault). IsGiven inputs_of (gen_reads c.args.bank c.args.seed c.args.size) r) (sym (e.1 ∙ ap Err e.2))
    (cuts_off_all c.args.bank (generated c.args.seed c.args.size) (Err c.in_err-cut_off.field-0.0) (all_inputs c.in_ok-all.all) c.in_ok-all.ensures.given c.in_err-cut_off.ensures.cut_off)

pub returns-clause-given : goal.returns-clause-given
returns-clause-given c =
    cuts_off_all c.args.bank (generated c.args.seed c.args.size) (Ok (inputs_of c.in_ok-cut_off.field-0)) (all_inputs c.in_ok-all.all) c.in_ok-all.ensures.given c.in_ok-cut_off.ensures.cut_off
