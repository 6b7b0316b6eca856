-- What the code knows of a refutation.
use Rattle.strand_judge.specs.Words.{crash_of}
use Rattle.strand_again.specs.declared.running.Ran.{Ran as Run}
use Rattle.strand_run.specs.Outcome.{view_of}
use Rattle.strand_app.specs.declared.commands.judge.Question.{Question as CodeQuestion}
use Rattle.strand_app.specs.declared.status.Made.{Made}
use Rattle.strand_app.specs.Commands.Refute.{RefutesOrAllows}

-- the refutation by the trace of a run
abbrev pub TellsRefutation : CodeQuestion → Run → Made → Type 0
TellsRefutation q r made = RefutesOrAllows q.setup.files.config.mode (view_of r).trace (crash_of q.setup.files.image.persistent q.crash) made.status made.text.items
