-- What a call tells, and what it leaves in the bank, by the rule of its command.
use Rattle.std.specs.Prelude.{◌≡◌, ◌⊎◌, ℕ, Ok, Err}
use Rattle.strand_base.specs.SinkSeen.{Takes}
use Rattle.strand_report.specs.declared.refusal.Refusal.{Refusal}
use Rattle.strand_app.specs.declared.status.Status.{Status}
use Rattle.strand_app.specs.declared.status.Status.TheVariants as status
use Rattle.strand_app.specs.Files.{Opened, Missed, Unread}
use Rattle.strand_app.specs.Rule.{Rule, Text, ShownBy}
use Rattle.strand_app.specs.World.{Outside}

-- A command's text was put whole: the answer may be no, and a module may have refused.
abbrev pub IsTold : Status → Type 0
IsTold result = (result ≡ status.Ok) ⊎ ((result ≡ status.No) ⊎ (result ≡ status.ModuleFault))

module _ (r : Rule) (before after : Outside) where
  -- A command's text was put whole; it is what the rule puts for one way that it may go and whose course the bank shows, and the bank holds what persist order allows of it.
  pub record Tells (result : Status) : Type 0 where
    pub found : r.Found
    pub opened : Opened r.names r.opens before.world.files after.world.files (Ok found)
    pub way : r.Way
    pub allowed : r.Allows found way
    pub shown : ShownBy (r.counted_from way) after.world.bank (r.course_of way)
    pub text : Text
    pub taken : Takes before.sink.taken after.sink.taken text
    pub puts : r.Puts found way after.world.bank result text
    pub holds : r.Holds found way after.world.bank

  -- The answer is no, and this is what it says: of `judge` and `gen` that no set is judged, of `refute` that one is, of `check` that a line isn't accepted.
  pub record TellsNo : Type 0 where
    pub found : r.Found
    pub opened : Opened r.names r.opens before.world.files after.world.files (Ok found)
    pub text : Text
    pub taken : Takes before.sink.taken after.sink.taken text
    pub means_no : r.MeansNo found text

  -- What the bank holds is what one way leaves in it that the call may go and whose course the bank shows.
  pub record HoldsOne : Type 0 where
    pub found : r.Found
    pub opened : Opened r.names r.opens before.world.files after.world.files (Ok found)
    pub way : r.Way
    pub allowed : r.Allows found way
    pub shown : ShownBy (r.counted_from way) after.world.bank (r.course_of way)
    pub holds : r.Holds found way after.world.bank

  -- the same where no memory was left
  pub record HoldsSome (result : Status) : Type 0 where
    pub memory : result ≡ status.Memory
    pub found : r.Found
    pub opened : Opened r.names r.opens before.world.files after.world.files (Ok found)
    pub holds : r.MayHold found after.world.bank

  -- What was given is refused, a file didn't come, or no memory was left for one.
  abbrev pub IsUnopened : Type 0
  IsUnopened =
      ((refused : Refusal) × Opened r.names r.opens before.world.files after.world.files (Err refused))
      ⊎ (((k : ℕ) × Missed r.names r.opens before.world.files after.world.files k)
      ⊎ Unread r.names r.opens before.world.files after.world.files)

  -- Nothing was run, and the bank holds what it held.
  pub record HoldsStill : Type 0 where
    pub unopened : IsUnopened
    pub same : after.world.bank ≡ before.world.bank

  -- what a call leaves in the bank, however it ends
  abbrev pub Holds : Status → Type 0
  Holds result = HoldsOne ⊎ (HoldsSome result ⊎ HoldsStill)
