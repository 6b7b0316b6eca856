use Rattle.std.proofs.Common.{◌∙◌, ◌++◌, [], ◌∷◌, length, ap, refl, subst, sym}
use Rattle.std.specs.Prelude.{Ok, Err}
use Rattle.std.specs.declared.result.Result.{Result}
use Rattle.std.proofs.lemmas.Result.{err_from_is_err_and}
use Rattle.strand_app.specs.declared.commands.check.Claim.{Claim as CodeClaim}
use Rattle.strand_app.specs.declared.fetching.OpenFault.{OpenFault}
use Rattle.strand_app.specs.declared.opening.RunFiles.{RunFiles}
use Rattle.strand_app.specs.Checking.{claim_of}
use Rattle.strand_app.specs.Commands.Check.{claim_reads, check_reads}
use Rattle.strand_app.specs.Contents.{crash_in, certificate_in}
use Rattle.strand_app.specs.Opening.{OpensTo, all_inputs, inputs_of, names_of}
use Rattle.strand_app.specs.RunFiles.{run_files}
use Rattle.strand_app.proofs.CheckReads.{contents, first, wants_crash, refuses_crash, four, first_four, wants_certificate, refuses_certificate, opens_claim}
use Rattle.strand_app.proofs.OpensTo.{fails_all, fails_next}
use Rattle.strand_app.proofs.commands.check.open_claim.Goals as goal

pub returns-in_err-all-clause-opens : goal.returns-in_err-all-clause-opens
returns-in_err-all-clause-opens g c =
    let e = err_from_is_err_and c.from_residual.result c.from_residual.ensures.1 in
    let before = g.F.Files.seen c.args.files.now in
    let after = g.F.Files.seen c.open_run_files.new.files in
    let names = names_of c.args.words in
    subst (λ (r : Result CodeClaim OpenFault). OpensTo (names ++ c.args.crash.now ∷ c.args.certificate.now ∷ []) (check_reads c.args.size c.args.words.stop) claim_of before after r) (sym (e.1 ∙ ap Err e.2))
    (fails_all names (c.args.crash.now ∷ c.args.certificate.now ∷ []) run_files (claim_reads c.args.size c.args.words.stop) all_inputs claim_of before after c.in_err-all.field-0.0 c.in_err-all.ensures.opens)

pub returns-in_err-crash-clause-opens : goal.returns-in_err-crash-clause-opens
returns-in_err-crash-clause-opens g c =
    let e = err_from_is_err_and c.from_residual-in_err-crash.result c.from_residual-in_err-crash.ensures.1 in
    let before = g.F.Files.seen c.args.files.now in
    let between = g.F.Files.seen c.open_run_files.new.files in
    let after = g.F.Files.seen c.fetch_crash.new.files in
    let names = names_of c.args.words in
    let crash = c.args.crash.now in
    let certificate = c.args.certificate.now in
    let u = all_inputs c.in_ok-all.all in
    let opened = c.in_ok-all.ensures.opens in
    subst (λ (r : Result CodeClaim OpenFault). OpensTo (names ++ crash ∷ certificate ∷ []) (check_reads c.args.size c.args.words.stop) claim_of before after r) (sym (e.1 ∙ ap Err e.2))
    (fails_next (names ++ crash ∷ certificate ∷ []) before between after (contents names crash certificate refl before between c.args.size c.args.words.stop u opened) crash
    (first names crash certificate refl before between c.args.size c.args.words.stop u opened) refl c.in_err-crash.ensures.says.0
    (check_reads c.args.size c.args.words.stop) claim_of 4 (crash_in c.in_ok-all.all.image) (λ words. words) refl
    (wants_crash names crash certificate refl before between c.args.size c.args.words.stop u opened)
    (refuses_crash names crash certificate refl before between c.args.size c.args.words.stop u opened) c.in_err-crash.field-0.0 c.in_err-crash.ensures.says)

pub returns-in_err-certificate-clause-opens : goal.returns-in_err-certificate-clause-opens
returns-in_err-certificate-clause-opens g c =
    let e = err_from_is_err_and c.from_residual-in_err-certificate.result c.from_residual-in_err-certificate.ensures.1 in
    let before = g.F.Files.seen c.args.files.now in
    let between = g.F.Files.seen c.open_run_files.new.files in
    let middle = g.F.Files.seen c.fetch_crash.new.files in
    let after = g.F.Files.seen c.fetch_certificate.new.files in
    let names = names_of c.args.words in
    let crash = c.args.crash.now in
    let certificate = c.args.certificate.now in
    let u = all_inputs c.in_ok-all.all in
    let opened = c.in_ok-all.ensures.opens in
    let read = c.in_ok-crash.ensures.says in
    subst (λ (r : Result CodeClaim OpenFault). OpensTo (names ++ crash ∷ certificate ∷ []) (check_reads c.args.size c.args.words.stop) claim_of before after r) (sym (e.1 ∙ ap Err e.2))
    (fails_next (names ++ crash ∷ certificate ∷ []) before middle after (four names crash certificate refl before between c.args.size c.args.words.stop u opened middle read.0 c.in_ok-crash.crash read.1.content read.1.gives read.1.is refl) certificate
    (first_four names crash certificate refl before between c.args.size c.args.words.stop u opened middle read.0 c.in_ok-crash.crash read.1.content read.1.gives read.1.is refl) refl c.in_err-certificate.ensures.0
    (check_reads c.args.size c.args.words.stop) claim_of 5 certificate_in (λ certificate. certificate) refl
    (wants_certificate names crash certificate refl before between c.args.size c.args.words.stop u opened middle read.0 c.in_ok-crash.crash read.1.content read.1.gives read.1.is refl)
    (refuses_certificate names crash certificate refl before between c.args.size c.args.words.stop u opened middle read.0 c.in_ok-crash.crash read.1.content read.1.gives read.1.is refl) c.in_err-certificate.field-0.0 c.in_err-certificate.ensures)

pub returns-in_err-setup-clause-opens : goal.returns-in_err-setup-clause-opens
returns-in_err-setup-clause-opens g c =
    let e = err_from_is_err_and c.from_residual-in_err-setup.result c.from_residual-in_err-setup.ensures.1 in
    let before = g.F.Files.seen c.args.files.now in
    let between = g.F.Files.seen c.open_run_files.new.files in
    let middle = g.F.Files.seen c.fetch_crash.new.files in
    let after = g.F.Files.seen c.fetch_certificate.new.files in
    let names = names_of c.args.words in
    let crash = c.args.crash.now in
    let certificate = c.args.certificate.now in
    let u = all_inputs c.in_ok-all.all in
    let opened = c.in_ok-all.ensures.opens in
    let read = c.in_ok-crash.ensures.says in
    let read' = c.in_ok-certificate.ensures in
    subst (λ (r : Result CodeClaim OpenFault). OpensTo (names ++ crash ∷ certificate ∷ []) (check_reads c.args.size c.args.words.stop) claim_of before after r) (sym (e.1 ∙ ap Err e.2))
    (opens_claim names crash certificate refl before between c.args.size c.args.words.stop u opened middle read.0 c.in_ok-crash.crash read.1.content read.1.gives read.1.is refl
    after read'.0 c.in_ok-certificate.certificate read'.1.content read'.1.gives read'.1.is refl (Err c.in_err-setup.field-0.0) c.in_err-setup.ensures.cut_off)

pub returns-clause-opens : goal.returns-clause-opens
returns-clause-opens g c =
    let before = g.F.Files.seen c.args.files.now in
    let between = g.F.Files.seen c.open_run_files.new.files in
    let middle = g.F.Files.seen c.fetch_crash.new.files in
    let after = g.F.Files.seen c.fetch_certificate.new.files in
    let names = names_of c.args.words in
    let crash = c.args.crash.now in
    let certificate = c.args.certificate.now in
    let u = all_inputs c.in_ok-all.all in
    let opened = c.in_ok-all.ensures.opens in
    let read = c.in_ok-crash.ensures.says in
    let read' = c.in_ok-certificate.ensures in
    opens_claim names crash certificate refl before between c.args.size c.args.words.stop u opened middle read.0 c.in_ok-crash.crash read.1.content read.1.gives read.1.is refl
    after read'.0 c.in_ok-certificate.certificate read'.1.content read'.1.gives read'.1.is refl (Ok (inputs_of c.in_ok-setup.setup)) c.in_ok-setup.ensures.cut_off

pub returns-clause-ready : goal.returns-clause-ready
returns-clause-ready g c = record { ready = c.in_ok-setup.ensures.ready; crash = c.in_ok-crash.ensures.long ∙ ap (λ (f : RunFiles). length f.image.persistent) (sym c.in_ok-setup.ensures.same) }
