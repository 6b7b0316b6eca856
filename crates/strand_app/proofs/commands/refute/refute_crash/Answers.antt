use Rattle.std.proofs.Common.{ℕ, ◌++◌, [], ◌∷◌, subst}
use Rattle.std.specs.Prelude.{Err}
use Rattle.strand_app.specs.CommandView.{refute_rule_in}
use Rattle.strand_app.specs.Commands.Judge.{Question, judge_reads}
use Rattle.strand_app.specs.Commands.Refute.{PutsRefutation, AllowsCrash}
use Rattle.strand_app.specs.Judging.{question_of}
use Rattle.strand_app.specs.Opening.{OpensTo, names_of}
use Rattle.strand_app.proofs.Comes.{refused_comes, machine_comes}
use Rattle.strand_modules.specs.Seen.{bank_seen}
use Rattle.strand_app.proofs.commands.refute.refute_crash.Goals as goal

pub returns-in-Ok : goal.returns-in-Ok
returns-in-Ok g c = machine_comes Question (λ q. q.run) (λ q bank. PutsRefutation q) AllowsCrash _ _ _ _ _ _ _ _ (rw c.words.ensures at c.in-Ok.ensures.opens) c.refutation_on_bank.ensures

pub returns-in-Err : goal.returns-in-Err
returns-in-Err g c =
    let before = g.F.Files.seen c.args.files.now in
    let after = g.F.Files.seen c.open_question.new.files in
    let names = names_of c.args.words ++ c.args.crash.now ∷ [] in
    refused_comes (refute_rule_in c.args.words c.args.crash.now (bank_seen (λ z. (goal.PmModule-dyn g z).holds z.1) c.args.bank.now)) question_of before after (bank_seen (λ z. (goal.PmModule-dyn g z).holds z.1) c.args.bank.now) c.in-Err.fault c.refuse.result
    (subst (λ (size : ℕ). OpensTo names (judge_reads size c.args.words.stop) question_of before after (Err c.in-Err.fault)) c.words.ensures c.in-Err.ensures.opens) c.refuse.ensures
