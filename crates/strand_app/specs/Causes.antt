-- The cause of each fault that a call answers.
use Rattle.std.specs.Prelude.{◌≡◌, ◌≢◌, ◌⊎◌, ℕ, [], ◌++◌, Ok, Err, Some, None, IsSome}
use Rattle.std.specs.declared.option.Option.{Option}
use Rattle.strand_base.specs.SinkSeen.{Takes}
use Rattle.strand_report.specs.FaultLines.{file_fault, module_fault_line}
use Rattle.strand_report.specs.Refusals.{refusal_line}
use Rattle.strand_report.specs.declared.module_fault.ModuleFault.{ModuleFault}
use Rattle.strand_report.specs.declared.refusal.Refusal.{Refusal}
use Rattle.strand_run.specs.Fault.{Course, fill, ran, ShownByBank}
use Rattle.strand_run.specs.Seen.{fill_fault, read_fault, store_fault}
use Rattle.strand_app.specs.declared.status.Status.{Status}
use Rattle.strand_app.specs.declared.status.Status.TheVariants as status
use Rattle.strand_app.specs.Command.{Command}
use Rattle.strand_app.specs.Ends.{SinkFails, PutsAll}
use Rattle.strand_app.specs.Files.{Opened, Missed, Says}
use Rattle.strand_app.specs.Reads.{Contents}
use Rattle.strand_app.specs.Answers.{refusal_status}
use Rattle.strand_app.specs.Rule.{Rule, Text}
use Rattle.strand_app.specs.Runs.{ComesTo}
use Rattle.strand_app.specs.World.{Outside}

-- the last line is that of this fault of a module
abbrev pub EndsWith : ModuleFault → Text → Type 0
EndsWith fault text = (front : Text) × (text ≡ front ++ module_fault_line fault)

-- The refusal that decides: where a read was refused too, it is that one. Before the line of a fill or a read this heading stands alone.
abbrev pub TellsRefusal : (heading : Text) → Course → Text → Type 0
TellsRefusal heading (fill m) text = text ≡ heading ++ module_fault_line (fill_fault m)
TellsRefusal heading (ran store (Some n)) text = text ≡ heading ++ module_fault_line (read_fault n)
TellsRefusal heading (ran (Some f) None) text = EndsWith (store_fault f) text
TellsRefusal heading (ran None None) text = ⊥

module _ (r : Rule) (before after : Outside) where
  -- The fetch of a file failed that was wanted, and the line names that file.
  pub record FileCause : Type 0 where
    pub file : ℕ
    pub missed : Missed r.names r.opens before.world.files after.world.files file
    pub line : Takes before.sink.taken after.sink.taken (file_fault file)

  -- What was given is refused, and the line says why and where.
  pub record RefusalCause (result : Status) : Type 0 where
    pub refused : Refusal
    pub opened : Opened r.names r.opens before.world.files after.world.files (Err refused)
    pub status : result ≡ refusal_status refused
    pub line : Takes before.sink.taken after.sink.taken (refusal_line refused)

  -- A module refused a fill, the store of a step that would be done, or a read: its count of faults rose, the bank counted what it was, and the last line tells it.
  pub record ModuleCause : Type 0 where
    pub found : r.Found
    pub opened : Opened r.names r.opens before.world.files after.world.files (Ok found)
    pub way : r.Way
    pub allowed : r.Allows found way
    pub course : Course
    pub taken_is : r.course_of way ≡ Some course
    pub shown : ShownByBank (r.counted_from way) after.world.bank course
    pub text : Text
    pub tells : TellsRefusal r.heading course text
    pub taken : Takes before.sink.taken after.sink.taken text

  -- The sink's count of faults rose, and a proper front of the command's text was taken.
  pub record SinkCause (result : Status) : Type 0 where
    pub end : Status
    pub text : Text
    pub made : ComesTo r before.world after.world end text
    pub fails : SinkFails text before.sink after.sink result

-- What the words and the told files say is refused so; where the command names no file, none needs to be told.
abbrev pub IsRefused : Rule → Outside → Refusal → Type 0
IsRefused r before refused =
    (IsSome before.world.files.told ⊎ (r.names ≡ [])) × ((contents : Contents) × Says r.names r.opens before.world.files.told contents (Err refused))

-- And so it is answered, unless a fetch or the sink failed or memory ran out.
abbrev pub AnswersRefusal : Outside → Outside → Refusal → Status → Type 0
AnswersRefusal before after refused result =
    PutsAll (refusal_status refused) (refusal_line refused) before.sink after.sink result
    ⊎ ((result ≡ status.FileFault) ⊎ ((result ≡ status.SinkFault) ⊎ (result ≡ status.Memory)))

-- The words are a command, and nothing was put.
abbrev pub MemoryCause : Option Command → Outside → Outside → Type 0
MemoryCause command before after = IsSome command × (after.sink ≡ before.sink)

-- The text was put whole: neither did the sink fail nor did memory run out.
abbrev pub IsPutWhole : Status → Type 0
IsPutWhole result = (result ≢ status.SinkFault) × (result ≢ status.Memory)
