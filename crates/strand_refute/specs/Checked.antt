-- What a check says of a certificate, and what a refutation is.
use Rattle.std.specs.Prelude.{◌≡◌, ℕ, suc, ◌<◌, ◌≤◌, List, length}
use Rattle.strand_base.specs.declared.limits.TheConstants.{MOST_STEPS}
use Rattle.strand_inputs.specs.declared.mode.Mode.{Mode}
use Rattle.strand_events.specs.declared.event.Event.{Event}
use Rattle.strand_events.specs.Order.{Set}
use Rattle.strand_judge.specs.Judged.{Crash, IsJudged}
use Rattle.strand_judge.specs.Verdicts.{IsLeastList}
use Rattle.strand_refute.specs.CertificateSeen.{CertificateSeen}
use Rattle.strand_refute.specs.Accepted.{IsAcceptedLine, IsAccepted}
use Rattle.strand_refute.specs.Fits.{CertificateFits}
use Rattle.strand_refute.specs.declared.checking.Checked.{Checked}
use Rattle.strand_refute.specs.declared.checking.Checked.TheVariants.{Accepted, Rejected}
use Rattle.strand_refute.specs.declared.refuting.Refutation.{Refutation}
use Rattle.strand_refute.specs.declared.refuting.Refutation.TheVariants.{Refuted, Possible}

-- the line, counted from 1, is the first that isn't accepted; behind the others it is the missing last one
pub record IsFirstRejected (mode : Mode) (t : List Event) (crash : Crash) (c : CertificateSeen) (line : ℕ) : Type 0 where
  pub place : ℕ
  pub line_is : line ≡ suc place
  pub within : place ≤ length c.forced
  pub before : (k : ℕ) → k < place → IsAcceptedLine mode t crash c k
  pub rejected : IsAcceptedLine mode t crash c place → ⊥

abbrev pub IsChecked : Mode → List Event → Crash → CertificateSeen → Checked → Type 0
IsChecked mode t crash c Accepted = IsAccepted mode t crash c
IsChecked mode t crash c (Rejected line) = IsFirstRejected mode t crash c line

abbrev pub NoneIsJudged : Mode → List Event → Crash → Type 0
NoneIsJudged mode t crash = (set : Set) → IsJudged mode t crash set → ⊥

-- where a certificate is accepted no set is judged
abbrev pub SaysAccepted : Mode → List Event → Crash → Checked → Type 0
SaysAccepted mode t crash Accepted = NoneIsJudged mode t crash
SaysAccepted mode t crash (Rejected line) = Unit {0}

-- a refutation has an accepted certificate, with at most one line for each event before its last, which a file may have
-- where a run may have the trace
pub record IsCertified (mode : Mode) (t : List Event) (crash : Crash) (c : CertificateSeen) : Type 0 where
  pub accepted : IsAccepted mode t crash c
  pub few : length c.forced ≤ length t
  pub fits : length t ≤ MOST_STEPS → CertificateFits c

abbrev pub SaysRefuted : Mode → List Event → Crash → Refutation → Type 0
SaysRefuted mode t crash (Refuted c) = IsCertified mode t crash c
SaysRefuted mode t crash (Possible list) = Unit {0}

-- where it is refuted no set is judged
abbrev pub SaysNone : Mode → List Event → Crash → Refutation → Type 0
SaysNone mode t crash (Refuted c) = NoneIsJudged mode t crash
SaysNone mode t crash (Possible list) = Unit {0}

-- where it is possible the list is that of the least judged set
abbrev pub SaysPossible : Mode → List Event → Crash → Refutation → Type 0
SaysPossible mode t crash (Refuted c) = Unit {0}
SaysPossible mode t crash (Possible list) = IsLeastList mode t crash list
