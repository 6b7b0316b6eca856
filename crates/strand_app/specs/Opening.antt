-- What the code knows of files that it opened.
use Rattle.std.specs.Prelude.{ℕ, ◌≤◌, List, [], ◌∷◌, All, length, take, Ok, Err}
use Rattle.std.specs.declared.result.Result.{Result}
use Rattle.strand_base.specs.declared.limits.TheConstants.{MOST_STEPS}
use Rattle.strand_asm.specs.declared.fault.AsmFault.TheVariants as text
use Rattle.strand_base.specs.FilesSeen.{FilesSeen}
use Rattle.strand_image.specs.declared.fault.ImageFault.TheVariants as image
use Rattle.strand_inputs.specs.Schedule.{IsBelow}
use Rattle.strand_inputs.specs.declared.fault.InputFault.TheVariants as input
use Rattle.strand_report.specs.declared.refusal.ContentFault.{ContentFault}
use Rattle.strand_report.specs.declared.refusal.ContentFault.TheVariants as content
use Rattle.strand_report.specs.declared.refusal.Refusal.TheVariants as refusal
use Rattle.strand_again.specs.Inputs.{Inputs, inputs}
use Rattle.strand_app.specs.declared.command.RunWords.{RunWords}
use Rattle.strand_app.specs.declared.fetching.OpenFault.{OpenFault}
use Rattle.strand_app.specs.declared.fetching.OpenFault.TheVariants.{Fetch, Refused, OutOfMemory}
use Rattle.strand_app.specs.declared.opening.RunFiles.{RunFiles}
use Rattle.strand_app.specs.declared.opening.Setup.{Setup}
use Rattle.strand_app.specs.Files.{Opened, Missed, Unread}
use Rattle.strand_app.specs.Reads.{Contents, Reads}

-- Why file k is not known to say something: want of memory is no fault of a content.
abbrev pub open_fault : ℕ → ContentFault → OpenFault
open_fault k (content.Input input.OutOfMemory) = OutOfMemory
open_fault k (content.Image image.OutOfMemory) = OutOfMemory
open_fault k (content.Text text.OutOfMemory) = OutOfMemory
open_fault k fault = Refused (refusal.File k fault)

-- Files of these names were opened: this came of it.
abbrev pub OpensTo : {V W : Type 0} → List (List ℕ) → (Contents → Reads V) → (W → V) → FilesSeen → FilesSeen → Result W OpenFault → Type 0
OpensTo names reads view before after (Ok found) = Opened names reads before after (Ok (view found))
OpensTo names reads view before after (Err (Refused refused)) = Opened names reads before after (Err refused)
OpensTo names reads view before after (Err (Fetch k)) = Missed names reads before after k
OpensTo names reads view before after (Err OutOfMemory) = Unread names reads before after

-- the names of the files of a run
abbrev pub names_of : RunWords → List (List ℕ)
names_of words = words.machine.now ∷ words.image.now ∷ words.schedule.now ∷ []

-- all steps of the schedule
abbrev pub all_inputs : RunFiles → Inputs
all_inputs files = inputs files.config files.image files.schedule

-- and those up to the stop
abbrev pub inputs_of : Setup → Inputs
inputs_of setup = inputs setup.files.config setup.files.image (take setup.stop setup.files.schedule)

-- the steps are of cores and buffers that there are
abbrev pub AreStepsBelow : RunFiles → Type 0
AreStepsBelow files = All (IsBelow (length files.image.entries) files.config.buffers) files.schedule

-- and the stop is within them, and a bank of so many words has room for the image
pub record IsReady (size : ℕ) (setup : Setup) : Type 0 where
  pub below : AreStepsBelow setup.files
  pub few : length setup.files.schedule ≤ MOST_STEPS
  pub stop : setup.stop ≤ length setup.files.schedule
  pub room : length setup.files.image.persistent ≤ size
