use Rattle.std.proofs.Common.{length, refl, subst, ap, arith}
use Rattle.std.proofs.lemmas.List.{length-take}
use Rattle.strand_app.specs.Opening.{inputs_of}
use Rattle.strand_app.specs.Running.{RunsOnBank}
use Rattle.strand_app.proofs.FewEvents.{few_events}
use Rattle.strand_app.proofs.RunsOnBank.{refutation_on_bank, trace_is, stops_with}
use Rattle.strand_modules.specs.Seen.{bank_seen}
use Rattle.strand_app.proofs.commands.refute.refutation_on_bank.Goals as goal

pub refutation_of-requires-clause-few : goal.refutation_of-requires-clause-few
refutation_of-requires-clause-few g c =
    let u = inputs_of c.args.question.now.setup in
    let before = bank_seen (λ z. (goal.PmModule-dyn g z).holds z.1) c.args.bank.now in
    let after = bank_seen (λ z. (goal.PmModule-dyn g z).holds z.1) c.run_on_bank.new.bank in
    let runs = subst (RunsOnBank u before after) c.in-Whole.is c.in_ok-run.ensures.ran in
    omega (arith, ap length (trace_is u before c.in-Whole.run' runs.is.1 runs.is.2), few_events u u.steps, length-take c.args.question.now.setup.stop c.args.question.now.setup.files.schedule, c.requires.ready.few)

pub returns-in-Whole : goal.returns-in-Whole
returns-in-Whole g c =
    refutation_on_bank (inputs_of c.args.question.now.setup) (bank_seen (λ z. (goal.PmModule-dyn g z).holds z.1) c.args.bank.now) (bank_seen (λ z. (goal.PmModule-dyn g z).holds z.1) c.run_on_bank.new.bank) c.args.question.now refl c.in-Whole.run' c.refutation_of.result
    (subst (RunsOnBank (inputs_of c.args.question.now.setup) (bank_seen (λ z. (goal.PmModule-dyn g z).holds z.1) c.args.bank.now) (bank_seen (λ z. (goal.PmModule-dyn g z).holds z.1) c.run_on_bank.new.bank)) c.in-Whole.is c.in_ok-run.ensures.ran) c.refutation_of.ensures

pub returns-in_err-run : goal.returns-in_err-run
returns-in_err-run g c =
    stops_with (inputs_of c.args.question.now.setup) (bank_seen (λ z. (goal.PmModule-dyn g z).holds z.1) c.args.bank.now) (bank_seen (λ z. (goal.PmModule-dyn g z).holds z.1) c.run_on_bank.new.bank) _ c.from_residual.result c.from_residual.ensures.0 c.in_err-run.ensures.memory
