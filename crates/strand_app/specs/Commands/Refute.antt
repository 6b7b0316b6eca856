-- refute MACHINE IMAGE SCHEDULE STOP CRASH: a certificate that no set of persists that the order allows has the crash image, by the trace of a run.
use Rattle.std.specs.Prelude.{◌≡◌, ℕ, ◌≤◌, List, [], ◌∷◌, length, Ok}
use Rattle.strand_events.specs.declared.event.Event.{Event}
use Rattle.strand_inputs.specs.declared.mode.Mode.{Mode}
use Rattle.strand_inputs.specs.declared.stop.Stop.{Stop}
use Rattle.strand_judge.specs.Judged.{Crash}
use Rattle.strand_judge.specs.Verdicts.{IsLeastList}
use Rattle.strand_judge.specs.Words.{crash_of}
use Rattle.strand_judge.specs.declared.verdict.Verdict.TheVariants.{Yes}
use Rattle.strand_modules.specs.Bank.{BankSeen}
use Rattle.strand_refute.specs.Accepted.{IsAccepted}
use Rattle.strand_refute.specs.CertificateSeen.{CertificateSeen}
use Rattle.strand_refute.specs.Checked.{NoneIsJudged}
use Rattle.strand_refute.specs.Grammar.{certificate_of, certificate_text}
use Rattle.strand_refute.specs.declared.limits.TheConstants.{MOST_CERTIFICATE_BYTES}
use Rattle.strand_report.specs.Verdict.{verdict_text}
use Rattle.strand_again.specs.Seen.{visible_after}
use Rattle.strand_app.specs.declared.status.Status.{Status}
use Rattle.strand_app.specs.declared.status.Status.TheVariants as status
use Rattle.strand_app.specs.Commands.Judge.{Question, judge_reads}
use Rattle.strand_app.specs.Machine.{machine_rule}
use Rattle.strand_app.specs.Rule.{Rule, Text}

-- No set is judged, and the lines are those of a certificate that is accepted: which one is free. It is within the limits of a
-- certificate's file, and is read from the text.
pub record HasCertificate (mode : Mode) (t : List Event) (crash : Crash) (text : Text) : Type 0 where
  pub certificate : CertificateSeen
  pub accepted : IsAccepted mode t crash certificate
  pub none : NoneIsJudged mode t crash
  pub lines : text ≡ certificate_text certificate
  pub read : certificate_of text ≡ Ok certificate
  pub short : length text ≤ MOST_CERTIFICATE_BYTES

-- A judged set exists, and the line has the least one.
pub record HasLeast (mode : Mode) (t : List Event) (crash : Crash) (text : Text) : Type 0 where
  pub list : List ℕ
  pub least : IsLeastList mode t crash list
  pub line : text ≡ verdict_text (Yes list)

-- Ok with a certificate, or no with the least judged set.
abbrev pub RefutesOrAllows : Mode → List Event → Crash → Status → Text → Type 0
RefutesOrAllows mode t crash status.Ok text = HasCertificate mode t crash text
RefutesOrAllows mode t crash status.No text = HasLeast mode t crash text
RefutesOrAllows mode t crash _ text = ⊥

-- by the visible run
abbrev pub PutsRefutation : Question → Status → Text → Type 0
PutsRefutation q end text = RefutesOrAllows q.run.config.mode (visible_after q.run q.run.steps).trace (crash_of q.run.image.persistent q.crash) end text

abbrev pub AllowsCrash : Question → Text → Type 0
AllowsCrash q text = HasLeast q.run.config.mode (visible_after q.run q.run.steps).trace (crash_of q.run.image.persistent q.crash) text

abbrev pub refute_rule : (machine image schedule : List ℕ) → Stop → (crash : List ℕ) → BankSeen → Rule
refute_rule machine image schedule stop crash before =
    machine_rule Question (λ q. q.run) (λ q bank. PutsRefutation q) AllowsCrash (machine ∷ image ∷ schedule ∷ crash ∷ []) (judge_reads before.size stop) before
