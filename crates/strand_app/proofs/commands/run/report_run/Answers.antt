use Rattle.std.proofs.Common.{ℕ, subst}
use Rattle.std.specs.Prelude.{Err}
use Rattle.strand_again.specs.Inputs.{Inputs}
use Rattle.strand_app.specs.CommandView.{run_rule_in}
use Rattle.strand_app.specs.Commands.Run.{run_reads}
use Rattle.strand_app.specs.Commands.Run.{PutsReport}
use Rattle.strand_app.specs.Opening.{OpensTo, inputs_of, names_of}
use Rattle.strand_app.proofs.Comes.{refused_comes, machine_comes}
use Rattle.strand_modules.specs.Seen.{bank_seen}
use Rattle.strand_app.proofs.commands.run.report_run.Goals as goal

pub returns-in-Ok : goal.returns-in-Ok
returns-in-Ok g c = machine_comes Inputs (λ u. u) PutsReport (λ u text. ⊥) _ _ _ _ _ _ _ _ (rw c.words.ensures at c.in-Ok.ensures.opens) c.report_on_bank.ensures

pub returns-in-Err : goal.returns-in-Err
returns-in-Err g c =
    let before = g.F.Files.seen c.args.files.now in
    let after = g.F.Files.seen c.open_run.new.files in
    refused_comes (run_rule_in c.args.words (bank_seen (λ z. (goal.PmModule-dyn g z).holds z.1) c.args.bank.now)) inputs_of before after (bank_seen (λ z. (goal.PmModule-dyn g z).holds z.1) c.args.bank.now) c.in-Err.fault c.refuse.result
    (subst (λ (size : ℕ). OpensTo (names_of c.args.words) (run_reads size c.args.words.stop) inputs_of before after (Err c.in-Err.fault)) c.words.ensures c.in-Err.ensures.opens) c.refuse.ensures
