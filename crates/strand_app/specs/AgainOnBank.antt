-- Generations on the bank, as the code finds them.
use Rattle.std.specs.Prelude.{◌≡◌, ℕ, ◌≤◌, List, [], ◌++◌, All, length, map, take, Some, None, Ok, Err}
use Rattle.std.specs.declared.option.Option.{Option}
use Rattle.std.specs.declared.result.Result.{Result}
use Rattle.strand_again.specs.declared.outcome.Outcome.{Outcome}
use Rattle.strand_again.specs.declared.running.Ran.{Ran}
use Rattle.strand_base.specs.declared.out_of_memory.OutOfMemory.{OutOfMemory}
use Rattle.strand_image.specs.ImageSeen.{ImageSeen}
use Rattle.strand_inputs.specs.Settings.{Settings}
use Rattle.strand_inputs.specs.Schedule.{IsBelow}
use Rattle.strand_inputs.specs.declared.mode.Mode.{Mode}
use Rattle.strand_inputs.specs.declared.step.Step.{Step}
use Rattle.strand_judge.specs.declared.verdict.Verdict.{Verdict}
use Rattle.strand_modules.specs.Bank.{BankSeen}
use Rattle.strand_report.specs.Generation.{generation_line}
use Rattle.strand_report.specs.Verdict.{verdict_text}
use Rattle.strand_rules.specs.declared.turn.StepFault.{StepFault}
use Rattle.strand_run.specs.Outcome.{view_of}
use Rattle.strand_run.specs.Seen.{Reports}
use Rattle.strand_app.specs.declared.commands.again.Part.{Part}
use Rattle.strand_app.specs.declared.commands.again.Told.{Told}
use Rattle.strand_app.specs.declared.status.Made.{Made}
use Rattle.strand_app.specs.declared.status.Status.{Status}
use Rattle.strand_app.specs.declared.status.Status.TheVariants as status
use Rattle.strand_app.specs.Commands.Again.{Parts, Way, AllowsWay, LeavesWay, MayLeaveBank, PutsWay, course_of}
use Rattle.strand_app.specs.Commands.Judge.{verdict_status}
use Rattle.strand_app.specs.Rule.{ShownBy, Text}

abbrev pub steps_of : Part → List Step
steps_of part = take part.stop part.schedule

abbrev pub parts_of : Settings → ImageSeen → List Part → Parts
parts_of config image parts = record { config = config; image = image; steps = map steps_of parts }

-- The steps are of cores and buffers that there are, and the stop is within them.
pub record IsPart (config : Settings) (image : ImageSeen) (part : Part) : Type 0 where
  pub below : All (IsBelow (length image.entries) config.buffers) part.schedule
  pub stop : part.stop ≤ length part.schedule

-- so each, and a bank of so many words has room for the image
pub record AreReadyParts (size : ℕ) (config : Settings) (image : ImageSeen) (parts : List Part) : Type 0 where
  pub each : All (IsPart config image) parts
  pub room : length image.persistent ≤ size

-- what the next generation starts with
abbrev pub next_start : Option (List ℕ) → ImageSeen → List ℕ
next_start None image = image.persistent
next_start (Some words) image = words

-- what a run was, of what came of a generation
abbrev pub run_of : Outcome → Ran
run_of o = record { machine = o.machine; turns = o.turns; held = o.held; fault = o.fault }

-- the line of a verdict, and the end of a call, where no store was refused
abbrev pub verdict_behind : Option StepFault → Verdict → Text
verdict_behind None least = verdict_text least
verdict_behind (Some fault) least = []

abbrev pub end_behind : Option StepFault → Verdict → Status
end_behind None least = verdict_status least
end_behind (Some fault) least = status.ModuleFault

-- What is told of a generation was put behind a text: its line, its report and its verdict.
pub record TellsOutcome (number : ℕ) (mode : Mode) (o : Outcome) (old new : Text) (told : Told) : Type 0 where
  pub report : Text
  pub reports : Reports mode (view_of (run_of o)) report
  pub put : new ≡ old ++ (generation_line number ++ (report ++ verdict_behind o.fault o.least))
  pub end : told.end ≡ end_behind o.fault o.least
  pub held : told.held ≡ o.held

-- The generations went one way that they may go, and an answer was made of it.
pub record MakesWay (parts : Parts) (before after : BankSeen) (made : Made) : Type 0 where
  pub way : Way
  pub allowed : AllowsWay parts before way
  pub shown : ShownBy before after (course_of way)
  pub leaves : LeavesWay parts before way after
  pub puts : PutsWay parts before way made.status made.text.items

abbrev pub MakesGenerations : Parts → BankSeen → BankSeen → Result Made OutOfMemory → Type 0
MakesGenerations parts before after (Ok made) = MakesWay parts before after made
MakesGenerations parts before after (Err memory) = MayLeaveBank parts before after
