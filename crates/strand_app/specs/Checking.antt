-- What the code knows of a claim that a crash image may not have come from a run, and of the check of its certificate.
use Rattle.std.specs.Prelude.{◌≡◌, ℕ, length}
use Rattle.strand_judge.specs.Words.{crash_of}
use Rattle.strand_refute.specs.Checked.{IsChecked, SaysAccepted}
use Rattle.strand_refute.specs.declared.checking.Checked.{Checked}
use Rattle.strand_again.specs.declared.running.Ran.{Ran as Run}
use Rattle.strand_run.specs.Outcome.{view_of}
use Rattle.strand_app.specs.declared.commands.check.Claim.{Claim as CodeClaim}
use Rattle.strand_app.specs.declared.status.Made.{Made}
use Rattle.strand_app.specs.Commands.Check.{Claim, checked_text, checked_status}
use Rattle.strand_app.specs.Opening.{IsReady, inputs_of}

abbrev pub claim_of : CodeClaim → Claim
claim_of q = record { run = inputs_of q.setup; crash = q.crash; certificate = q.certificate }

-- The crash image has as many words as the image has persistent words.
pub record AreClaimed (size : ℕ) (q : CodeClaim) : Type 0 where
  pub ready : IsReady size q.setup
  pub crash : length q.crash ≡ length q.setup.files.image.persistent

-- what the check says by the trace of a run
pub record TellsChecked (q : CodeClaim) (r : Run) (made : Made) : Type 0 where
  pub checked : Checked
  pub is : IsChecked q.setup.files.config.mode (view_of r).trace (crash_of q.setup.files.image.persistent q.crash) q.certificate checked
  pub none : SaysAccepted q.setup.files.config.mode (view_of r).trace (crash_of q.setup.files.image.persistent q.crash) checked
  pub line : made.text.items ≡ checked_text checked
  pub status : made.status ≡ checked_status checked
