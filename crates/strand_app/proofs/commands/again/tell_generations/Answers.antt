use Rattle.std.proofs.Common.{ℕ, subst}
use Rattle.std.specs.Prelude.{Err}
use Rattle.strand_modules.specs.Seen.{bank_seen}
use Rattle.strand_app.specs.AgainOpening.{again_names, parts_seen}
use Rattle.strand_app.specs.CommandView.{again_rule_in, pairs_asked}
use Rattle.strand_app.specs.Commands.Again.{again_reads}
use Rattle.strand_app.specs.Opening.{OpensTo}
use Rattle.strand_app.proofs.AgainComes.{generations_come}
use Rattle.strand_app.proofs.Comes.{refused_comes}
use Rattle.strand_app.proofs.commands.again.tell_generations.Goals as goal

pub returns-in-Ok : goal.returns-in-Ok
returns-in-Ok g c = generations_come _ _ _ _ _ _ _ _ _ (rw c.words.ensures at c.in-Ok.ensures.opens) c.generations_on_bank.ensures.kept (rw c.deref.ensures.value at c.generations_on_bank.ensures.made)

pub returns-in-Err : goal.returns-in-Err
returns-in-Err g c =
    let before = g.F.Files.seen c.args.files.now in
    let after = g.F.Files.seen c.open_parts.new.files in
    refused_comes (again_rule_in c.args.words (bank_seen (λ z. (goal.PmModule-dyn g z).holds z.1) c.args.bank.now)) parts_seen before after (bank_seen (λ z. (goal.PmModule-dyn g z).holds z.1) c.args.bank.now) c.in-Err.fault c.refuse.result
    (subst (λ (size : ℕ). OpensTo (again_names c.args.words) (again_reads size (pairs_asked c.args.words.pairs.now)) parts_seen before after (Err c.in-Err.fault)) c.words.ensures c.in-Err.ensures.opens) c.refuse.ensures
