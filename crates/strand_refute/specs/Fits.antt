-- Which certificates are read back from their printed form.
use Rattle.std.specs.Prelude.{ℕ, ◌+◌, ◌<◌, ◌≤◌, ◌^◌, Option, Some, None, length}
use Rattle.std.specs.List.{AllByRecursion}
use Rattle.strand_refute.specs.CertificateSeen.{CertificateSeen}
use Rattle.strand_refute.specs.Grammar.{ending_words}
use Rattle.strand_refute.specs.declared.certificate.Reason.{Reason}
use Rattle.strand_refute.specs.declared.certificate.Reason.TheVariants.{Joined, Order, Match}
use Rattle.strand_refute.specs.declared.certificate.Forced.{Forced}
use Rattle.strand_refute.specs.declared.certificate.Ending.{Ending}
use Rattle.strand_refute.specs.declared.limits.TheConstants.{MOST_CERTIFICATE_LINES}

abbrev pub OptionFits : Option ℕ → Type 0
OptionFits None = Unit {0}
OptionFits (Some e) = e < 2 ^ 32

abbrev pub ReasonFits : Reason → Type 0
ReasonFits Joined = Unit {0}
ReasonFits (Order after) = after < 2 ^ 32
ReasonFits (Match after) = OptionFits after

abbrev pub ForcedFits : Forced → Type 0
ForcedFits f = (f.event < 2 ^ 32) × ReasonFits f.reason

abbrev pub EndingFits : Option Ending → Type 0
EndingFits None = Unit {0}
EndingFits (Some e) = (e.word < 2 ^ 64) × OptionFits e.last

-- its numbers fit their types, and it has few enough lines
pub record CertificateFits (c : CertificateSeen) : Type 0 where
  pub forced : AllByRecursion ForcedFits c.forced
  pub ending : EndingFits c.ending
  pub few : length c.forced + length (ending_words c.ending) ≤ MOST_CERTIFICATE_LINES
