use Rattle.std.proofs.Common.{◌∙◌, ap, subst, sym}
use Rattle.std.specs.Prelude.{Err}
use Rattle.std.specs.declared.result.Result.{Result}
use Rattle.std.proofs.lemmas.Result.{err_from_is_err_and}
use Rattle.strand_app.specs.declared.commands.again.Parts.{Parts as CodeParts}
use Rattle.strand_app.specs.declared.fetching.OpenFault.{OpenFault}
use Rattle.strand_app.specs.AgainOpening.{again_names, parts_seen}
use Rattle.strand_app.specs.CommandView.{pairs_asked}
use Rattle.strand_app.specs.Commands.Again.{again_reads}
use Rattle.strand_app.specs.Opening.{OpensTo}
use Rattle.strand_app.proofs.AgainReads.{parts_failed, program_failed}
use Rattle.strand_app.proofs.commands.again.open_parts.Goals as goal

pub returns-in_err-config-clause-opens : goal.returns-in_err-config-clause-opens
returns-in_err-config-clause-opens g c =
    let e = err_from_is_err_and c.from_residual.result c.from_residual.ensures.1 in
    let before = g.F.Files.seen c.args.files.now in
    let after = g.F.Files.seen c.open_program.new.files in
    subst (λ (r : Result CodeParts OpenFault). OpensTo (again_names c.args.words) (again_reads c.args.size (pairs_asked c.args.words.pairs.now)) parts_seen before after r) (sym (e.1 ∙ ap Err e.2))
    (program_failed c.args.words c.args.size before after _ c.in_err-config.ensures)

pub returns-in_err-cut-clause-opens : goal.returns-in_err-cut-clause-opens
returns-in_err-cut-clause-opens g c =
    let e = err_from_is_err_and c.from_residual-in_err-cut.result c.from_residual-in_err-cut.ensures.1 in
    let before = g.F.Files.seen c.args.files.now in
    let after = g.F.Files.seen c.fetch_parts.new.files in
    subst (λ (r : Result CodeParts OpenFault). OpensTo (again_names c.args.words) (again_reads c.args.size (pairs_asked c.args.words.pairs.now)) parts_seen before after r) (sym (e.1 ∙ ap Err e.2))
    (parts_failed c.args.words c.args.size before after _ (c.in_err-cut.ensures.fetches before c.in_ok-config.ensures))
