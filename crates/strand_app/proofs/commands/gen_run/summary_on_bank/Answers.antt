use Rattle.std.proofs.Common.{◌∙◌, ap, refl, subst, sym}
use Rattle.strand_run.specs.Outcome.{RunsTo}
use Rattle.strand_app.specs.Opening.{inputs_of}
use Rattle.strand_app.proofs.Summary.{gen_refused, gen_summed, refusal_of}
use Rattle.strand_modules.specs.Seen.{bank_seen}
use Rattle.strand_app.proofs.RunsOnBank.{stops_with}
use Rattle.strand_app.proofs.commands.gen_run.summary_on_bank.Goals as goal

pub returns-in-FillRefused : goal.returns-in-FillRefused
returns-in-FillRefused g c =
    gen_refused c.args.seed c.args.size (inputs_of c.args.setup.now) (bank_seen (λ z. (goal.PmModule-dyn g z).holds z.1) c.args.bank.now) (bank_seen (λ z. (goal.PmModule-dyn g z).holds z.1) c.run_setup.new.bank) c.in_ok-module.field-0 c.in_ok-module.ensures.ran c.refused.result _ (ap refusal_of c.in-FillRefused.is) c.refused.ensures

pub returns-in-ReadRefused : goal.returns-in-ReadRefused
returns-in-ReadRefused g c =
    gen_refused c.args.seed c.args.size (inputs_of c.args.setup.now) (bank_seen (λ z. (goal.PmModule-dyn g z).holds z.1) c.args.bank.now) (bank_seen (λ z. (goal.PmModule-dyn g z).holds z.1) c.run_setup.new.bank) c.in_ok-module.field-0 c.in_ok-module.ensures.ran c.refused-in-ReadRefused.result _ (ap refusal_of c.in-ReadRefused.is)
    c.refused-in-ReadRefused.ensures

pub returns-in-Some : goal.returns-in-Some
returns-in-Some g c =
    gen_refused c.args.seed c.args.size (inputs_of c.args.setup.now) (bank_seen (λ z. (goal.PmModule-dyn g z).holds z.1) c.args.bank.now) (bank_seen (λ z. (goal.PmModule-dyn g z).holds z.1) c.run_setup.new.bank) c.in_ok-module.field-0 c.in_ok-module.ensures.ran c.refused-in-Some.result c.in-Some.fault
    (ap refusal_of c.in-Told.is ∙ sym c.in-Some.ensures) c.refused-in-Some.ensures

pub returns : goal.returns
returns g c =
    let u = inputs_of c.args.setup.now in
    gen_summed c.args.seed c.args.size u (bank_seen (λ z. (goal.PmModule-dyn g z).holds z.1) c.args.bank.now) (bank_seen (λ z. (goal.PmModule-dyn g z).holds z.1) c.run_setup.new.bank) c.in-Told.run' (subst (RunsTo u (bank_seen (λ z. (goal.PmModule-dyn g z).holds z.1) c.args.bank.now) (bank_seen (λ z. (goal.PmModule-dyn g z).holds z.1) c.run_setup.new.bank)) c.in-Told.is c.in_ok-module.ensures.ran) (sym c.in-None.ensures) c.args.setup.now
    c.summary_of.result refl c.summary_of.ensures

pub returns-in_err-module : goal.returns-in_err-module
returns-in_err-module g c =
    stops_with (inputs_of c.args.setup.now) (bank_seen (λ z. (goal.PmModule-dyn g z).holds z.1) c.args.bank.now) (bank_seen (λ z. (goal.PmModule-dyn g z).holds z.1) c.run_setup.new.bank) _ c.from_residual.result c.from_residual.ensures.0 c.in_err-module.ensures.memory
