use Rattle.std.proofs.Common.{refl, subst}
use Rattle.strand_app.specs.Opening.{inputs_of}
use Rattle.strand_app.specs.Running.{RunsOnBank}
use Rattle.strand_app.proofs.RunsOnBank.{verdict_on_bank, stops_with}
use Rattle.strand_modules.specs.Seen.{bank_seen}
use Rattle.strand_app.proofs.commands.judge.verdict_on_bank.Goals as goal

pub returns-in-Whole : goal.returns-in-Whole
returns-in-Whole g c =
    verdict_on_bank (inputs_of c.args.question.now.setup) (bank_seen (λ z. (goal.PmModule-dyn g z).holds z.1) c.args.bank.now) (bank_seen (λ z. (goal.PmModule-dyn g z).holds z.1) c.run_on_bank.new.bank) c.args.question.now refl c.in-Whole.run' c.verdict_of.result
    (subst (RunsOnBank (inputs_of c.args.question.now.setup) (bank_seen (λ z. (goal.PmModule-dyn g z).holds z.1) c.args.bank.now) (bank_seen (λ z. (goal.PmModule-dyn g z).holds z.1) c.run_on_bank.new.bank)) c.in-Whole.is c.in_ok-run.ensures.ran) c.verdict_of.ensures

pub returns-in_err-run : goal.returns-in_err-run
returns-in_err-run g c =
    stops_with (inputs_of c.args.question.now.setup) (bank_seen (λ z. (goal.PmModule-dyn g z).holds z.1) c.args.bank.now) (bank_seen (λ z. (goal.PmModule-dyn g z).holds z.1) c.run_on_bank.new.bank) _ c.from_residual.result c.from_residual.ensures.0 c.in_err-run.ensures.memory
