use Rattle.strand_app.specs.Commands.Trace.{PutsTrace}
use Rattle.strand_app.specs.Opening.{inputs_of}
use Rattle.strand_app.proofs.RunsOnBank.{stops_on_bank, stops_with}
use Rattle.strand_modules.specs.Seen.{bank_seen}
use Rattle.strand_app.proofs.commands.trace.trace_on_bank.Goals as goal

pub returns-in_err-trace-in-Whole : goal.returns-in_err-trace-in-Whole
returns-in_err-trace-in-Whole g c =
    stops_on_bank (inputs_of c.args.setup.now) (bank_seen (λ z. (goal.PmModule-dyn g z).holds z.1) c.args.bank.now) (bank_seen (λ z. (goal.PmModule-dyn g z).holds z.1) c.run_on_bank.new.bank) (PutsTrace (inputs_of c.args.setup.now) (bank_seen (λ z. (goal.PmModule-dyn g z).holds z.1) c.args.bank.now)) c.in_ok-run.field-0 c.from_residual-in_err-trace-in-Whole.result
    c.in_ok-run.ensures.ran c.from_residual-in_err-trace-in-Whole.ensures.0

pub returns-in_err-run : goal.returns-in_err-run
returns-in_err-run g c =
    stops_with (inputs_of c.args.setup.now) (bank_seen (λ z. (goal.PmModule-dyn g z).holds z.1) c.args.bank.now) (bank_seen (λ z. (goal.PmModule-dyn g z).holds z.1) c.run_on_bank.new.bank) _ c.from_residual.result c.from_residual.ensures.0 c.in_err-run.ensures.memory
