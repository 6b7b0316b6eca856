-- What the bank holds after a call, by its status.
use Rattle.std.specs.Prelude.{◌≡◌, ◌⊎◌, Ok, None, IfSome, IsSomeAnd}
use Rattle.std.specs.declared.option.Option.{Option}
use Rattle.strand_base.specs.SinkSeen.{Takes, TakesUpToFault}
use Rattle.strand_run.specs.Fault.{Course, ran}
use Rattle.strand_app.specs.declared.status.Status.{Status}
use Rattle.strand_app.specs.declared.status.Status.TheVariants as status
use Rattle.strand_app.specs.Causes.{TellsRefusal}
use Rattle.strand_app.specs.Files.{Opened}
use Rattle.strand_app.specs.Rule.{Rule, Text, ShownBy}
use Rattle.strand_app.specs.Runs.{ComesTo}
use Rattle.strand_app.specs.World.{World, Outside}

-- No module refused anything of a run, if there was one.
abbrev pub IsUnrefused : Option Course → Type 0
IsUnrefused course = IfSome course (λ c. c ≡ ran None None)

module _ (r : Rule) (before after : World) where
  abbrev pub IsAsAtEntry : Type 0
  IsAsAtEntry = after.bank ≡ before.bank

  -- It is as a way of such a course leaves it, which it shows.
  pub record LeftBy (Such : Option Course → Type 0) : Type 0 where
    pub found : r.Found
    pub opened : Opened r.names r.opens before.files after.files (Ok found)
    pub way : r.Way
    pub such : Such (r.course_of way)
    pub shown : ShownBy (r.counted_from way) after.bank (r.course_of way)
    pub leaves : r.Leaves found way after.bank

  -- It is as want of memory behind the files may leave it.
  pub record LeftAtWant : Type 0 where
    pub found : r.Found
    pub opened : Opened r.names r.opens before.files after.files (Ok found)
    pub leaves : r.MayLeave found after.bank

  -- by the status that goes with a text
  abbrev pub BankAt : Status → Text → Type 0
  BankAt status.Ok text = LeftBy IsUnrefused
  BankAt status.No text = LeftBy IsUnrefused
  BankAt status.ModuleFault text = LeftBy (λ course. IsSomeAnd course (λ c. TellsRefusal r.heading c text))
  BankAt status.Words text = IsAsAtEntry
  BankAt status.Input text = IsAsAtEntry
  BankAt status.FileFault text = IsAsAtEntry
  BankAt status.Limit text = IsAsAtEntry
  BankAt status.StopPast text = IsAsAtEntry
  BankAt status.SinkFault text = ⊥
  BankAt status.Memory text = ⊥

module _ (r : Rule) (before after : Outside) where
  -- The call came to this status and this text, and the bank is by both.
  abbrev pub CameTo : Status → Text → Type 0
  CameTo end text = ComesTo r before.world after.world end text × BankAt r before.world after.world end text

  -- by those of a call whose text was put
  abbrev pub BankAtPut : Status → Type 0
  BankAtPut result = (text : Text) × Takes before.sink.taken after.sink.taken text × CameTo result text

  -- A fault of the sink changes nothing of it: it is by the status and the text that were due, of which the sink took a front.
  abbrev pub Afterwards : Status → Type 0
  Afterwards status.Memory = IsAsAtEntry r before.world after.world ⊎ LeftAtWant r before.world after.world
  Afterwards status.SinkFault = (end : Status) × (text : Text) × TakesUpToFault before.sink after.sink text × CameTo end text
  Afterwards result = BankAtPut result
