-- What the code knows of a question to the judge, and of its verdict.
use Rattle.std.specs.Prelude.{◌≡◌, ℕ, length}
use Rattle.strand_judge.specs.Verdicts.{IsVerdict}
use Rattle.strand_judge.specs.Words.{crash_of}
use Rattle.strand_judge.specs.declared.verdict.Verdict.{Verdict}
use Rattle.strand_report.specs.Verdict.{verdict_text}
use Rattle.strand_again.specs.declared.running.Ran.{Ran as Run}
use Rattle.strand_run.specs.Outcome.{view_of}
use Rattle.strand_app.specs.declared.commands.judge.Question.{Question as CodeQuestion}
use Rattle.strand_app.specs.declared.status.Made.{Made}
use Rattle.strand_app.specs.Commands.Judge.{Question, verdict_status}
use Rattle.strand_app.specs.Opening.{IsReady, inputs_of}

abbrev pub question_of : CodeQuestion → Question
question_of q = record { run = inputs_of q.setup; crash = q.crash }

-- The crash image has as many words as the image has persistent words.
pub record AreAsked (size : ℕ) (q : CodeQuestion) : Type 0 where
  pub ready : IsReady size q.setup
  pub crash : length q.crash ≡ length q.setup.files.image.persistent

-- the verdict by the trace of a run
pub record TellsVerdict (q : CodeQuestion) (r : Run) (made : Made) : Type 0 where
  pub judged : Verdict
  pub is : IsVerdict q.setup.files.config.mode (view_of r).trace (crash_of q.setup.files.image.persistent q.crash) judged
  pub line : made.text.items ≡ verdict_text judged
  pub status : made.status ≡ verdict_status judged
