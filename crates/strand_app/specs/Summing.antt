-- What the code knows of the summary of a generated run.
use Rattle.std.specs.Prelude.{◌≡◌, ℕ, ◌++◌}
use Rattle.strand_report.specs.Summary.{gen_line, summary_text}
use Rattle.strand_report.specs.declared.summary.Summary.{Summary}
use Rattle.strand_run.specs.Outcome.{view_of}
use Rattle.strand_run.specs.Summed.{Sums}
use Rattle.strand_again.specs.declared.running.Ran.{Ran as Run}
use Rattle.strand_app.specs.declared.opening.Setup.{Setup}
use Rattle.strand_app.specs.declared.status.Made.{Made}
use Rattle.strand_app.specs.Commands.Judge.{verdict_status}

-- the summary by a run
pub record TellsSummary (seed size : ℕ) (setup : Setup) (r : Run) (made : Made) : Type 0 where
  pub summary : Summary
  pub sums : Sums setup.files.config.mode (view_of r) setup.files.image.persistent summary
  pub lines : made.text.items ≡ gen_line seed size ++ summary_text summary
  pub status : made.status ≡ verdict_status summary.verdict
