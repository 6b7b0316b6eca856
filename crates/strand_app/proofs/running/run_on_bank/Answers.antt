use Rattle.std.proofs.Common.{refl, subst}
use Rattle.strand_inputs.specs.declared.mode.Mode.{Mode}
use Rattle.strand_run.specs.Outcome.{RunsTo, view_of}
use Rattle.strand_run.specs.Seen.{Reports}
use Rattle.strand_app.specs.Opening.{inputs_of}
use Rattle.strand_app.proofs.RunsOnBank.{fill_refused, may_of, ran_refused, ran_whole, read_refused}
use Rattle.strand_modules.specs.Seen.{bank_seen}
use Rattle.strand_app.proofs.running.run_on_bank.Goals as goal

pub returns-in-ReadRefused-clause-memory : goal.returns-in-ReadRefused-clause-memory
returns-in-ReadRefused-clause-memory g c = may_of (inputs_of c.args.setup.now) (bank_seen (λ z. (goal.PmModule-dyn g z).holds z.1) c.args.bank.now) (bank_seen (λ z. (goal.PmModule-dyn g z).holds z.1) c.run_setup.new.bank) c.refused-in-ReadRefused.result c.in_ok-module.field-0 c.in_ok-module.ensures.ran

pub returns-in_err-report-in-Told-clause-memory : goal.returns-in_err-report-in-Told-clause-memory
returns-in_err-report-in-Told-clause-memory g c =
    may_of (inputs_of c.args.setup.now) (bank_seen (λ z. (goal.PmModule-dyn g z).holds z.1) c.args.bank.now) (bank_seen (λ z. (goal.PmModule-dyn g z).holds z.1) c.run_setup.new.bank) c.from_residual-in_err-report-in-Told.result c.in_ok-module.field-0 c.in_ok-module.ensures.ran

pub returns-in_ok-report-in-Told-clause-ran : goal.returns-in_ok-report-in-Told-clause-ran
returns-in_ok-report-in-Told-clause-ran g c =
    let u = inputs_of c.args.setup.now in
    ran_refused u (bank_seen (λ z. (goal.PmModule-dyn g z).holds z.1) c.args.bank.now) (bank_seen (λ z. (goal.PmModule-dyn g z).holds z.1) c.run_setup.new.bank) c.in-Told.run' _ (subst (RunsTo u (bank_seen (λ z. (goal.PmModule-dyn g z).holds z.1) c.args.bank.now) (bank_seen (λ z. (goal.PmModule-dyn g z).holds z.1) c.run_setup.new.bank)) c.in-Told.is c.in_ok-module.ensures.ran) c.if-is_none.ensures refl
    (subst (λ (m : Mode). Reports m (view_of c.in-Told.run') c.in_ok-report-in-Told.field-0.items) c.mode.ensures c.in_ok-report-in-Told.ensures)

pub returns-then-is_none-clause-ran : goal.returns-then-is_none-clause-ran
returns-then-is_none-clause-ran g c =
    let u = inputs_of c.args.setup.now in
    ran_whole u (bank_seen (λ z. (goal.PmModule-dyn g z).holds z.1) c.args.bank.now) (bank_seen (λ z. (goal.PmModule-dyn g z).holds z.1) c.run_setup.new.bank) c.in-Told.run' (subst (RunsTo u (bank_seen (λ z. (goal.PmModule-dyn g z).holds z.1) c.args.bank.now) (bank_seen (λ z. (goal.PmModule-dyn g z).holds z.1) c.run_setup.new.bank)) c.in-Told.is c.in_ok-module.ensures.ran) c.if-is_none.ensures

pub returns-in-FillRefused-clause-ran : goal.returns-in-FillRefused-clause-ran
returns-in-FillRefused-clause-ran g c =
    let u = inputs_of c.args.setup.now in
    fill_refused u (bank_seen (λ z. (goal.PmModule-dyn g z).holds z.1) c.args.bank.now) (bank_seen (λ z. (goal.PmModule-dyn g z).holds z.1) c.run_setup.new.bank) c.in-FillRefused.«module» c.refused.result (subst (RunsTo u (bank_seen (λ z. (goal.PmModule-dyn g z).holds z.1) c.args.bank.now) (bank_seen (λ z. (goal.PmModule-dyn g z).holds z.1) c.run_setup.new.bank)) c.in-FillRefused.is c.in_ok-module.ensures.ran) c.refused.ensures

pub returns-in-FillRefused-clause-memory : goal.returns-in-FillRefused-clause-memory
returns-in-FillRefused-clause-memory g c = may_of (inputs_of c.args.setup.now) (bank_seen (λ z. (goal.PmModule-dyn g z).holds z.1) c.args.bank.now) (bank_seen (λ z. (goal.PmModule-dyn g z).holds z.1) c.run_setup.new.bank) c.refused.result c.in_ok-module.field-0 c.in_ok-module.ensures.ran

pub returns-in-ReadRefused-clause-ran : goal.returns-in-ReadRefused-clause-ran
returns-in-ReadRefused-clause-ran g c =
    let u = inputs_of c.args.setup.now in
    read_refused u (bank_seen (λ z. (goal.PmModule-dyn g z).holds z.1) c.args.bank.now) (bank_seen (λ z. (goal.PmModule-dyn g z).holds z.1) c.run_setup.new.bank) c.in-ReadRefused.«module» c.refused-in-ReadRefused.result (subst (RunsTo u (bank_seen (λ z. (goal.PmModule-dyn g z).holds z.1) c.args.bank.now) (bank_seen (λ z. (goal.PmModule-dyn g z).holds z.1) c.run_setup.new.bank)) c.in-ReadRefused.is c.in_ok-module.ensures.ran) c.refused-in-ReadRefused.ensures
