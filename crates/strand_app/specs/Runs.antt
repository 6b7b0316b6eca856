-- The whole call, by the rule of its command.
use Rattle.std.specs.Prelude.{◌≡◌, ◌⊎◌, ℕ, Ok, Err}
use Rattle.std.specs.declared.result.Result.{Result}
use Rattle.strand_base.specs.declared.out_of_memory.OutOfMemory.{OutOfMemory}
use Rattle.strand_modules.specs.Bank.{Keeps}
use Rattle.strand_report.specs.FaultLines.{file_fault}
use Rattle.strand_report.specs.Refusals.{refusal_line}
use Rattle.strand_report.specs.declared.refusal.Refusal.{Refusal}
use Rattle.strand_app.specs.declared.status.Made.{Made}
use Rattle.strand_app.specs.declared.status.Status.{Status}
use Rattle.strand_app.specs.declared.status.Status.TheVariants as status
use Rattle.strand_app.specs.Ends.{Ends}
use Rattle.strand_app.specs.Files.{Opened, Missed, Unread}
use Rattle.strand_app.specs.Answers.{refusal_status}
use Rattle.strand_app.specs.Rule.{Rule, Text, ShownBy}
use Rattle.strand_app.specs.World.{World, Outside}

module _ (r : Rule) (before after : World) where
  -- The files were not refused: the call went one way that it may go, and a text was made of it.
  pub record Makes (end : Status) (text : Text) : Type 0 where
    pub found : r.Found
    pub opened : Opened r.names r.opens before.files after.files (Ok found)
    pub way : r.Way
    pub allowed : r.Allows found way
    pub shown : ShownBy (r.counted_from way) after.bank (r.course_of way)
    pub kept : Keeps before.bank after.bank
    pub leaves : r.Leaves found way after.bank
    pub puts : r.Puts found way after.bank end text

  -- What was given is refused, and the bank wasn't touched.
  pub record RefusesInput (end : Status) (text : Text) : Type 0 where
    pub refused : Refusal
    pub opened : Opened r.names r.opens before.files after.files (Err refused)
    pub same : after.bank ≡ before.bank
    pub status : end ≡ refusal_status refused
    pub line : text ≡ refusal_line refused

  -- The fetch of a file failed that was wanted, and the bank wasn't touched.
  pub record Misses (end : Status) (text : Text) : Type 0 where
    pub file : ℕ
    pub missed : Missed r.names r.opens before.files after.files file
    pub same : after.bank ≡ before.bank
    pub status : end ≡ status.FileFault
    pub line : text ≡ file_fault file

  -- what a command comes to, if the sink doesn't fail
  abbrev pub ComesTo : Status → Text → Type 0
  ComesTo end text = Makes end text ⊎ (RefusesInput end text ⊎ Misses end text)

  -- No memory was left for a file, or behind one that didn't come.
  pub record StopsReading : Type 0 where
    pub unread : Unread r.names r.opens before.files after.files
    pub same : after.bank ≡ before.bank

  -- No memory was left for the line of a refusal.
  pub record StopsRefusing : Type 0 where
    pub refused : Refusal
    pub opened : Opened r.names r.opens before.files after.files (Err refused)
    pub same : after.bank ≡ before.bank

  -- No memory was left behind the files.
  pub record StopsRunning : Type 0 where
    pub found : r.Found
    pub opened : Opened r.names r.opens before.files after.files (Ok found)
    pub kept : Keeps before.bank after.bank
    pub leaves : r.MayLeave found after.bank

  abbrev pub Stops : Type 0
  Stops = StopsRunning ⊎ (StopsRefusing ⊎ StopsReading)

-- what comes of a command that is not put yet
abbrev pub Comes : Rule → World → World → Result Made OutOfMemory → Type 0
Comes r before after (Ok made) = ComesTo r before after made.status made.text.items
Comes r before after (Err memory) = Stops r before after

module _ (r : Rule) (before after : Outside) (result : Status) where
  -- No memory was left, and nothing was put.
  pub record GivesUp : Type 0 where
    pub status : result ≡ status.Memory
    pub nothing : after.sink ≡ before.sink
    pub stops : Stops r before.world after.world

  -- The text was made, and put as far as the sink took it.
  pub record EndsAs : Type 0 where
    pub end : Status
    pub text : Text
    pub made : ComesTo r before.world after.world end text
    pub put : Ends end text before.sink after.sink result

  -- the whole call
  abbrev pub Runs : Type 0
  Runs = GivesUp ⊎ EndsAs
