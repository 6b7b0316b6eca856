use Rattle.std.proofs.Common.{◌∙◌, [], ap, subst, sym}
use Rattle.std.specs.Prelude.{Ok, Err}
use Rattle.std.specs.declared.result.Result.{Result}
use Rattle.std.proofs.lemmas.Result.{err_from_is_err_and}
use Rattle.strand_app.specs.declared.fetching.OpenFault.{OpenFault}
use Rattle.strand_app.specs.declared.opening.Setup.{Setup}
use Rattle.strand_app.specs.Commands.Run.{run_reads}
use Rattle.strand_app.specs.Opening.{OpensTo, all_inputs, inputs_of, names_of}
use Rattle.strand_app.specs.RunFiles.{run_files, cut_off}
use Rattle.strand_app.proofs.OpensTo.{fails_all}
use Rattle.strand_app.proofs.RunReads.{cuts_off}
use Rattle.strand_app.proofs.opening.open_run.Goals as goal

pub returns-in_err-all-clause-opens : goal.returns-in_err-all-clause-opens
returns-in_err-all-clause-opens g c =
    let e = err_from_is_err_and c.from_residual.result c.from_residual.ensures.1 in
    let before = g.F.Files.seen c.args.files.now in
    let after = g.F.Files.seen c.open_run_files.new.files in
    subst (λ (r : Result Setup OpenFault). OpensTo (names_of c.args.words) (run_reads c.args.size c.args.words.stop) inputs_of before after r) (sym (e.1 ∙ ap Err e.2))
    (fails_all (names_of c.args.words) [] run_files (λ contents. cut_off c.args.size c.args.words.stop) all_inputs inputs_of before after c.in_err-all.field-0.0 c.in_err-all.ensures.opens)

pub returns-in_err-cut_off-clause-opens : goal.returns-in_err-cut_off-clause-opens
returns-in_err-cut_off-clause-opens g c =
    let e = err_from_is_err_and c.from_residual-in_err-cut_off.result c.from_residual-in_err-cut_off.ensures.1 in
    let before = g.F.Files.seen c.args.files.now in
    let after = g.F.Files.seen c.open_run_files.new.files in
    subst (λ (r : Result Setup OpenFault). OpensTo (names_of c.args.words) (run_reads c.args.size c.args.words.stop) inputs_of before after r) (sym (e.1 ∙ ap Err e.2))
    (cuts_off (names_of c.args.words) c.args.size c.args.words.stop (all_inputs c.in_ok-all.all) before after (Err c.in_err-cut_off.field-0.0) c.in_err-cut_off.ensures.cut_off c.in_ok-all.ensures.opens)

pub returns-clause-opens : goal.returns-clause-opens
returns-clause-opens g c =
    cuts_off (names_of c.args.words) c.args.size c.args.words.stop (all_inputs c.in_ok-all.all) (g.F.Files.seen c.args.files.now) (g.F.Files.seen c.open_run_files.new.files) (Ok (inputs_of c.in_ok-cut_off.field-0)) c.in_ok-cut_off.ensures.cut_off
    c.in_ok-all.ensures.opens
