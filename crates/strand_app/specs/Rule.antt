-- The rule of a command, for a bank as it stands at entry.
use Rattle.std.specs.Prelude.{◌≡◌, ℕ, List, Some, None}
use Rattle.std.specs.declared.option.Option.{Option}
use Rattle.strand_modules.specs.Bank.{BankSeen}
use Rattle.strand_run.specs.Fault.{Course, ShownByBank}
use Rattle.strand_app.specs.declared.status.Status.{Status}
use Rattle.strand_app.specs.Reads.{Contents, Reads}

abbrev pub Text : Type 0
Text = List ℕ

-- What a command does with files that are not refused: it goes one of its ways, by which it takes a course on the bank, or none where it runs nothing there.
pub record Rule : Type 1 where
  -- the names of its files, in their order
  pub names : List (List ℕ)
  -- what is found in its files, and how they are read
  pub Found : Type 0
  pub opens : Contents → Reads Found
  -- the ways that it can go, and the course that each takes on the bank
  pub Way : Type 0
  pub course_of : Way → Option Course
  -- the bank from which the counts of that course go on
  pub counted_from : Way → BankSeen
  -- It may go this way.
  pub Allows : Found → Way → Type 0
  -- By this way, with this bank behind it, the call ends so and puts this, if the sink doesn't fail.
  pub Puts : Found → Way → BankSeen → Status → Text → Type 0
  -- what stands before the line of a module that refuses the fill or the read
  pub heading : Text
  -- By this way it leaves this bank,
  pub Leaves : Found → Way → BankSeen → Type 0
  -- and where memory ran out it may leave this one.
  pub MayLeave : Found → BankSeen → Type 0
  -- The headline: what persist order says of the bank that it leaves, or may leave,
  pub Holds : Found → Way → BankSeen → Type 0
  pub MayHold : Found → BankSeen → Type 0
  -- and what a no says.
  pub MeansNo : Found → Text → Type 0

-- what the bank shows of a course: where nothing was run, that it wasn't touched
abbrev pub ShownBy : BankSeen → BankSeen → Option Course → Type 0
ShownBy before after None = after ≡ before
ShownBy before after (Some fault) = ShownByBank before after fault
