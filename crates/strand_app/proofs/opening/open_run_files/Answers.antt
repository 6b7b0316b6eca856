use Rattle.std.proofs.Common.{◌∙◌, [], ◌∷◌, ap, refl, subst, sym}
use Rattle.std.specs.Prelude.{Err}
use Rattle.std.specs.declared.result.Result.{Result}
use Rattle.std.proofs.lemmas.Result.{err_from_is_err_and}
use Rattle.strand_app.specs.declared.fetching.OpenFault.{OpenFault}
use Rattle.strand_app.specs.declared.opening.RunFiles.{RunFiles}
use Rattle.strand_app.specs.Contents.{machine_in, image_in, schedule_in}
use Rattle.strand_app.specs.Opening.{OpensTo, all_inputs, names_of}
use Rattle.strand_app.specs.RunFiles.{run_files}
use Rattle.strand_app.proofs.OpensTo.{first_none, first_more, fails_next}
use Rattle.strand_app.proofs.RunReads.{wants_machine, wants_image, image_refused, wants_schedule, schedule_refused, all_read}
use Rattle.strand_app.proofs.opening.open_run_files.Goals as goal

pub returns-in_err-config-clause-opens : goal.returns-in_err-config-clause-opens
returns-in_err-config-clause-opens g c =
    let e = err_from_is_err_and c.from_residual.result c.from_residual.ensures.1 in
    let names = names_of c.args.words in
    let before = g.F.Files.seen c.args.files.now in
    let after = g.F.Files.seen c.fetch_machine.new.files in
    subst (λ (r : Result RunFiles OpenFault). OpensTo names run_files all_inputs before after r) (sym (e.1 ∙ ap Err e.2))
    (fails_next names before before after [] c.args.words.machine.now (first_none names before) refl c.in_err-config.ensures.0
    run_files all_inputs 1 machine_in (λ config. config) refl wants_machine (λ content refused is others. rw is refl) c.in_err-config.field-0.0 c.in_err-config.ensures)

pub returns-in_err-image-clause-opens : goal.returns-in_err-image-clause-opens
returns-in_err-image-clause-opens g c =
    let e = err_from_is_err_and c.from_residual-in_err-image.result c.from_residual-in_err-image.ensures.1 in
    let names = names_of c.args.words in
    let before = g.F.Files.seen c.args.files.now in
    let first = g.F.Files.seen c.fetch_machine.new.files in
    let after = g.F.Files.seen c.fetch_image.new.files in
    let one = c.in_ok-config.ensures in
    let got = first_more names before before first [] c.args.words.machine.now (first_none names before) refl one.0 one.1.content one.1.gives in
    subst (λ (r : Result RunFiles OpenFault). OpensTo names run_files all_inputs before after r) (sym (e.1 ∙ ap Err e.2))
    (fails_next names before first after (one.1.content ∷ []) c.args.words.image.now got refl c.in_err-image.ensures.0
    run_files all_inputs 2 image_in (λ image. image) refl (wants_image one.1.content c.in_ok-config.config one.1.is) (image_refused one.1.content c.in_ok-config.config one.1.is) c.in_err-image.field-0.0 c.in_err-image.ensures)

pub returns-in_err-schedule-clause-opens : goal.returns-in_err-schedule-clause-opens
returns-in_err-schedule-clause-opens g c =
    let e = err_from_is_err_and c.from_residual-in_err-schedule.result c.from_residual-in_err-schedule.ensures.1 in
    let names = names_of c.args.words in
    let before = g.F.Files.seen c.args.files.now in
    let first = g.F.Files.seen c.fetch_machine.new.files in
    let second = g.F.Files.seen c.fetch_image.new.files in
    let after = g.F.Files.seen c.fetch_schedule.new.files in
    let one = c.in_ok-config.ensures in
    let two = c.in_ok-image.ensures in
    let got = first_more names before before first [] c.args.words.machine.now (first_none names before) refl one.0 one.1.content one.1.gives in
    let more = first_more names before first second (one.1.content ∷ []) c.args.words.image.now got refl two.0 two.1.content two.1.gives in
    subst (λ (r : Result RunFiles OpenFault). OpensTo names run_files all_inputs before after r) (sym (e.1 ∙ ap Err e.2))
    (fails_next names before second after (one.1.content ∷ two.1.content ∷ []) c.args.words.schedule.now more refl c.in_err-schedule.ensures.says.0
    run_files all_inputs 3 (schedule_in c.in_ok-config.config c.in_ok-image.image) (λ steps. steps) refl
    (wants_schedule one.1.content c.in_ok-config.config one.1.is two.1.content c.in_ok-image.image two.1.is)
    (schedule_refused one.1.content c.in_ok-config.config one.1.is two.1.content c.in_ok-image.image two.1.is) c.in_err-schedule.field-0.0 c.in_err-schedule.ensures.says)

pub returns-clause-opens : goal.returns-clause-opens
returns-clause-opens g c =
    let names = names_of c.args.words in
    let before = g.F.Files.seen c.args.files.now in
    let first = g.F.Files.seen c.fetch_machine.new.files in
    let second = g.F.Files.seen c.fetch_image.new.files in
    let after = g.F.Files.seen c.fetch_schedule.new.files in
    let one = c.in_ok-config.ensures in
    let two = c.in_ok-image.ensures in
    let three = c.in_ok-schedule.ensures.says in
    let got = first_more names before before first [] c.args.words.machine.now (first_none names before) refl one.0 one.1.content one.1.gives in
    let more = first_more names before first second (one.1.content ∷ []) c.args.words.image.now got refl two.0 two.1.content two.1.gives in
    let all = first_more names before second after (one.1.content ∷ two.1.content ∷ []) c.args.words.schedule.now more refl three.0 three.1.content three.1.gives in
    record {
      contents = one.1.content ∷ two.1.content ∷ three.1.content ∷ [];
      says = record { first = all.first; is = all_read one.1.content c.in_ok-config.config one.1.is two.1.content c.in_ok-image.image two.1.is three.1.content c.in_ok-schedule.schedule three.1.is };
      fetched = all;
      all = refl;
    }
