use Rattle.std.proofs.Common.{◌∙◌, [], ◌∷◌, ap, refl, subst, sym}
use Rattle.std.specs.Prelude.{Err}
use Rattle.std.specs.declared.result.Result.{Result}
use Rattle.std.proofs.lemmas.Result.{err_from_is_err_and}
use Rattle.strand_image.specs.ImageSeen.{ImageSeen}
use Rattle.strand_inputs.specs.Settings.{Settings}
use Rattle.strand_app.specs.declared.fetching.OpenFault.{OpenFault}
use Rattle.strand_app.specs.AgainOpening.{program_names, program_seen}
use Rattle.strand_app.specs.Commands.Again.{program_reads}
use Rattle.strand_app.specs.Contents.{machine_in, image_in}
use Rattle.strand_app.specs.Opening.{OpensTo}
use Rattle.strand_app.proofs.AgainReads.{program_read, program_refused, wants_config, wants_program}
use Rattle.strand_app.proofs.OpensTo.{first_none, first_more, fails_next}
use Rattle.strand_app.proofs.commands.again.open_program.Goals as goal

pub returns-in_err-config : goal.returns-in_err-config
returns-in_err-config g c =
    let e = err_from_is_err_and c.from_residual.result c.from_residual.ensures.1 in
    let names = program_names c.args.words in
    let before = g.F.Files.seen c.args.files.now in
    let after = g.F.Files.seen c.fetch_machine.new.files in
    subst (λ (r : Result (Settings × ImageSeen) OpenFault). OpensTo names program_reads program_seen before after r) (sym (e.1 ∙ ap Err e.2))
    (fails_next names before before after [] c.args.words.machine.now (first_none names before) refl c.in_err-config.ensures.0
    program_reads program_seen 1 machine_in (λ config. config) refl wants_config (λ content refused is others. rw is refl) c.in_err-config.field-0.0 c.in_err-config.ensures)

pub returns-in_err-image : goal.returns-in_err-image
returns-in_err-image g c =
    let e = err_from_is_err_and c.from_residual-in_err-image.result c.from_residual-in_err-image.ensures.1 in
    let names = program_names c.args.words in
    let before = g.F.Files.seen c.args.files.now in
    let first = g.F.Files.seen c.fetch_machine.new.files in
    let after = g.F.Files.seen c.fetch_image.new.files in
    let one = c.in_ok-config.ensures in
    let got = first_more names before before first [] c.args.words.machine.now (first_none names before) refl one.0 one.1.content one.1.gives in
    subst (λ (r : Result (Settings × ImageSeen) OpenFault). OpensTo names program_reads program_seen before after r) (sym (e.1 ∙ ap Err e.2))
    (fails_next names before first after (one.1.content ∷ []) c.args.words.image.now got refl c.in_err-image.ensures.0
    program_reads program_seen 2 image_in (λ image. image) refl (wants_program one.1.content c.in_ok-config.config one.1.is) (program_refused one.1.content c.in_ok-config.config one.1.is) c.in_err-image.field-0.0 c.in_err-image.ensures)

pub returns : goal.returns
returns g c =
    let names = program_names c.args.words in
    let before = g.F.Files.seen c.args.files.now in
    let first = g.F.Files.seen c.fetch_machine.new.files in
    let after = g.F.Files.seen c.fetch_image.new.files in
    let one = c.in_ok-config.ensures in
    let two = c.in_ok-image.ensures in
    let got = first_more names before before first [] c.args.words.machine.now (first_none names before) refl one.0 one.1.content one.1.gives in
    let more = first_more names before first after (one.1.content ∷ []) c.args.words.image.now got refl two.0 two.1.content two.1.gives in
    record {
      contents = one.1.content ∷ two.1.content ∷ [];
      says = record { first = more.first; is = program_read one.1.content c.in_ok-config.config one.1.is two.1.content c.in_ok-image.image two.1.is };
      fetched = more;
      all = refl;
    }
