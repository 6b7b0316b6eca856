use Rattle.std.proofs.Common.{ℕ, List, ◌++◌, length, ◌∙◌, ap, subst, arith}
use Rattle.strand_inputs.specs.declared.mode.Mode.{Mode}
use Rattle.strand_judge.specs.Words.{crash_of}
use Rattle.strand_refute.specs.Accepted.{IsAccepted}
use Rattle.strand_refute.specs.Checked.{NoneIsJudged, SaysNone, SaysRefuted}
use Rattle.strand_refute.specs.Grammar.{certificate_of, certificate_text}
use Rattle.strand_refute.proofs.Texts.Again.{certificate_again}
use Rattle.strand_refute.proofs.Texts.Short.{certificate_short}
use Rattle.strand_run.specs.Outcome.{view_of}
use Rattle.strand_app.proofs.commands.refute.refutation_of.Goals as goal

pub returns-in_ok-write_certificate-in-Refuted : goal.returns-in_ok-write_certificate-in-Refuted
returns-in_ok-write_certificate-in-Refuted c =
    let t = (view_of c.args.run.now).trace in
    let mode = c.args.question.now.setup.files.config.mode in
    let initial = c.args.question.now.setup.files.image.persistent in
    let crash = c.as_slice-crash.result.now in
    let certificate = c.in-Refuted.certificate in
    let said = subst (SaysRefuted c.mode.result t (crash_of c.persistent-initial.result.now crash)) c.in-Refuted.is c.in_ok-certificate.ensures.refuted in
    let none = subst (SaysNone c.mode.result t (crash_of c.persistent-initial.result.now crash)) c.in-Refuted.is c.in_ok-certificate.ensures.none in
    let of_mode = subst (λ (m : Mode). IsAccepted m t (crash_of c.persistent-initial.result.now crash) certificate × NoneIsJudged m t (crash_of c.persistent-initial.result.now crash)) c.mode.ensures (said.accepted, none) in
    let of_initial = subst (λ (xs : List ℕ). IsAccepted mode t (crash_of xs crash) certificate × NoneIsJudged mode t (crash_of xs crash)) c.persistent-initial.ensures.persistent of_mode in
    let both = subst (λ (xs : List ℕ). IsAccepted mode t (crash_of initial xs) certificate × NoneIsJudged mode t (crash_of initial xs)) c.as_slice-crash.ensures of_initial in
    let lines = c.in_ok-write_certificate-in-Refuted.ensures ∙ ap (λ (xs : List ℕ). xs ++ certificate_text certificate) c.new-text.ensures.items in
    let fits = said.fits c.requires.few in
    record {
      certificate = certificate;
      accepted = both.0;
      none = both.1;
      lines = lines;
      read = ap certificate_of lines ∙ certificate_again certificate fits;
      short = omega (arith, ap length lines, certificate_short certificate fits);
    }
