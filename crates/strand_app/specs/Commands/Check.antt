-- check MACHINE IMAGE SCHEDULE STOP CRASH CERT: whether a certificate is accepted, by the trace of a run.
use Rattle.std.specs.Prelude.{◌≡◌, ℕ, List, [], ◌∷◌}
use Rattle.std.specs.Fmt.{decimal}
use lib.Chars.{codes}
use Rattle.strand_base.specs.Text.{line_text}
use Rattle.strand_inputs.specs.declared.stop.Stop.{Stop}
use Rattle.strand_judge.specs.Words.{crash_of}
use Rattle.strand_modules.specs.Bank.{BankSeen}
use Rattle.strand_refute.specs.CertificateSeen.{CertificateSeen}
use Rattle.strand_refute.specs.Checked.{IsChecked, IsFirstRejected, SaysAccepted}
use Rattle.strand_refute.specs.declared.checking.Checked.{Checked}
use Rattle.strand_refute.specs.declared.checking.Checked.TheVariants.{Accepted, Rejected}
use Rattle.strand_again.specs.Inputs.{Inputs}
use Rattle.strand_again.specs.Seen.{visible_after}
use Rattle.strand_app.specs.declared.status.Status.{Status}
use Rattle.strand_app.specs.declared.status.Status.TheVariants as status
use Rattle.strand_app.specs.Contents.{crash_in, certificate_in}
use Rattle.strand_app.specs.Machine.{machine_rule}
use Rattle.strand_app.specs.Reads.{Contents, Reads, file, given, ◌>>=◌}
use Rattle.strand_app.specs.Rule.{Rule, Text}
use Rattle.strand_app.specs.RunFiles.{run_files, cut_off}

-- what is run, the words of a crash image, and a certificate
pub record Claim : Type 0 where
  pub run : Inputs
  pub crash : List ℕ
  pub certificate : CertificateSeen

-- from the crash image on, on a bank of so many words
abbrev pub claim_reads : ℕ → Stop → Contents → Inputs → Reads Claim
claim_reads size stop contents all = do
  crash ← file 4 (crash_in all.image) contents
  certificate ← file 5 certificate_in contents
  run ← cut_off size stop all
  given (record { run = run; crash = crash; certificate = certificate })

abbrev pub check_reads : ℕ → Stop → Contents → Reads Claim
check_reads size stop contents = do
  all ← run_files contents
  claim_reads size stop contents all

-- "accepted", or "rejected L"
abbrev pub checked_text : Checked → List ℕ
checked_text Accepted = line_text (codes "accepted" ∷ [])
checked_text (Rejected line) = line_text (codes "rejected" ∷ decimal line ∷ [])

abbrev pub checked_status : Checked → Status
checked_status Accepted = status.Ok
checked_status (Rejected line) = status.No

-- What the check says, by the visible run; where it accepts, no set of persists that the order allows has the crash image.
pub record PutsChecked (q : Claim) (end : Status) (text : Text) : Type 0 where
  pub checked : Checked
  pub is : IsChecked q.run.config.mode (visible_after q.run q.run.steps).trace (crash_of q.run.image.persistent q.crash) q.certificate checked
  pub none : SaysAccepted q.run.config.mode (visible_after q.run q.run.steps).trace (crash_of q.run.image.persistent q.crash) checked
  pub line : text ≡ checked_text checked
  pub status : end ≡ checked_status checked

-- A line of the certificate isn't accepted, and the line names the first one.
pub record RejectsClaim (q : Claim) (text : Text) : Type 0 where
  pub place : ℕ
  pub first : IsFirstRejected q.run.config.mode (visible_after q.run q.run.steps).trace (crash_of q.run.image.persistent q.crash) q.certificate place
  pub line : text ≡ checked_text (Rejected place)

abbrev pub check_rule : (machine image schedule : List ℕ) → Stop → (crash certificate : List ℕ) → BankSeen → Rule
check_rule machine image schedule stop crash certificate before =
    machine_rule Claim (λ q. q.run) (λ q bank. PutsChecked q) RejectsClaim (machine ∷ image ∷ schedule ∷ crash ∷ certificate ∷ []) (check_reads before.size stop) before
