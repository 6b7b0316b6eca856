-- What a check knows while it goes along the lines.
use Rattle.std.specs.Prelude.{◌≡◌, ℕ, ◌<◌, Bool, List, Option, Some, None, length}
use Rattle.strand_inputs.specs.declared.mode.Mode.{Mode}
use Rattle.strand_events.specs.declared.event.Event.{Event}
use Rattle.strand_events.specs.Order.{Set, set_of}
use Rattle.strand_judge.specs.Judged.{Crash}
use Rattle.strand_refute.specs.declared.certificate.Ending.{Ending}
use Rattle.strand_refute.specs.CertificateSeen.{CertificateSeen}
use Rattle.strand_refute.specs.Accepted.{needed_by, IsAcceptedEnding, IsAcceptedLine}

-- there is a last line, and it is accepted
abbrev pub HasAcceptedEnding : List Event → Crash → Set → Option Ending → Type 0
HasAcceptedEnding t crash needed None = ⊥
HasAcceptedEnding t crash needed (Some e) = IsAcceptedEnding t crash needed e

-- the first k lines are accepted, and the events that they name are marked
pub record AreAccepted (mode : Mode) (t : List Event) (crash : Crash) (c : CertificateSeen) (k : ℕ) (marks : List Bool) : Type 0 where
  pub long : length marks ≡ length t
  pub accepted : (m : ℕ) → m < k → IsAcceptedLine mode t crash c m
  pub needed : (e : ℕ) → set_of marks e ≡ needed_by c.forced k e
