use Rattle.std.proofs.Common.{ℕ, [], subst}
use Rattle.std.specs.Prelude.{Ok, Err}
use Rattle.strand_report.specs.Summary.{gen_line}
use Rattle.strand_again.specs.Inputs.{Inputs}
use Rattle.strand_run.proofs.RunImage.{untouched}
use Rattle.strand_app.specs.Commands.Gen.{PutsGen, RefutesHeld, gen_reads, gen_rule}
use Rattle.strand_app.specs.Generated.{IsGiven}
use Rattle.strand_app.specs.Opening.{inputs_of}
use Rattle.strand_app.proofs.Comes.{stepping_comes}
use Rattle.strand_app.proofs.GenCommands.{given_fails, none_opened}
use Rattle.strand_modules.specs.Seen.{bank_seen}
use Rattle.strand_app.proofs.commands.gen_run.judge_generated.Goals as goal

pub returns-in-Ok : goal.returns-in-Ok
returns-in-Ok g c =
    let seed = c.args.seed in
    let size = c.args.size in
    let bank = (bank_seen (λ z. (goal.PmModule-dyn g z).holds z.1) c.args.bank.now) in
    let reads = gen_reads bank.size seed size in
    λ files. stepping_comes Inputs (λ u. u) (gen_line seed size) (PutsGen seed size) (λ u. RefutesHeld seed size u bank) [] (λ contents. reads) files files bank (bank_seen (λ z. (goal.PmModule-dyn g z).holds z.1) c.summary_on_bank.new.bank) (inputs_of c.in-Ok.setup) c.summary_on_bank.result
    (none_opened reads files (Ok (inputs_of c.in-Ok.setup)) (subst (λ (n : ℕ). IsGiven inputs_of (gen_reads n seed size) (Ok c.in-Ok.setup)) c.words.ensures c.in-Ok.ensures.given)) c.summary_on_bank.ensures

pub returns-in-Err : goal.returns-in-Err
returns-in-Err g c =
    let seed = c.args.seed in
    let size = c.args.size in
    let bank = (bank_seen (λ z. (goal.PmModule-dyn g z).holds z.1) c.args.bank.now) in
    let reads = gen_reads bank.size seed size in
    λ files. given_fails (gen_rule seed size bank) inputs_of reads files bank (none_opened reads files) (λ u. untouched u bank) c.in-Err.fault c.refuse.result
    (subst (λ (n : ℕ). IsGiven inputs_of (gen_reads n seed size) (Err c.in-Err.fault)) c.words.ensures c.in-Err.ensures.given) c.refuse.ensures
