-- again MACHINE IMAGE SCHEDULE STOP..: generations of crashes, each from the words that the one before left.
use Rattle.std.specs.Prelude.{◌≡◌, ◌⊎◌, ℕ, suc, ◌+◌, ◌%◌, ◌<◌, ◌≤◌, List, [], ◌∷◌, ◌++◌, length, map, take, OnSome, Some, None, Ok, Err}
use Rattle.std.specs.declared.option.Option.{Option}
use Rattle.std.specs.declared.result.Result.{Result}
use Rattle.strand_again.specs.Generations.{AreGenerations, Generation, HaveGone, inputs_of, made_of, words_behind}
use Rattle.strand_again.specs.Inputs.{Inputs, inputs, inputs_from}
use Rattle.strand_again.specs.Outcome.{IsOutOfMemory, IsStoreOf, IsUnread}
use Rattle.strand_again.specs.Seen.{IsDurableAllowed, StandsAfter, visible_after}
use Rattle.strand_again.specs.Stepping.{steps_made}
use Rattle.strand_events.specs.Order.{Set}
use Rattle.strand_image.specs.ImageSeen.{ImageSeen}
use Rattle.strand_inputs.specs.Settings.{Settings}
use Rattle.strand_inputs.specs.Stop.{steps_to}
use Rattle.strand_inputs.specs.declared.step.Step.{Step}
use Rattle.strand_judge.specs.Judged.{IsJudged}
use Rattle.strand_judge.specs.Verdicts.{IsRefuted}
use Rattle.strand_judge.specs.Words.{crash_of}
use Rattle.strand_judge.specs.declared.verdict.Verdict.{Verdict}
use Rattle.strand_judge.specs.declared.verdict.Verdict.TheVariants.{Yes, No}
use Rattle.strand_modules.specs.Bank.{BankSeen}
use Rattle.strand_report.specs.FaultLines.{module_fault_line}
use Rattle.strand_report.specs.Generation.{generation_line}
use Rattle.strand_report.specs.Verdict.{verdict_text}
use Rattle.strand_report.specs.declared.refusal.Refusal.{Refusal}
use Rattle.strand_rules.specs.declared.turn.StepFault.{StepFault}
use Rattle.strand_run.specs.Fault.{Course, fill, ran}
use Rattle.strand_run.specs.Outcome.{Leaves, PartFilled}
use Rattle.strand_run.specs.Seen.{Reports, fill_fault, read_fault, view_after}
use Rattle.strand_app.specs.declared.status.Status.{Status}
use Rattle.strand_app.specs.declared.status.Status.TheVariants as status
use Rattle.strand_app.specs.Command.{Pair}
use Rattle.strand_app.specs.Commands.Judge.{verdict_status}
use Rattle.strand_app.specs.Contents.{machine_in, image_in, schedule_in}
use Rattle.strand_app.specs.Reads.{Contents, Reads, file, decided, given, ◌>>=◌}
use Rattle.strand_app.specs.Rule.{Rule, Text}
use Rattle.strand_app.specs.RunFiles.{bank_holds, or_past}

-- what is run: the steps of each generation
pub record Parts : Type 0 where
  pub config : Settings
  pub image : ImageSeen
  pub steps : List (List Step)

-- a machine file and an image
abbrev pub program_reads : Contents → Reads Parts
program_reads contents = do
  config ← file 1 machine_in contents
  image ← file 2 image_in contents
  given (record { config = config; image = image; steps = [] })

-- and one schedule more, which is file k
abbrev pub and_schedule : ℕ → Contents → Parts → Reads Parts
and_schedule k contents parts = do
  steps ← file k (schedule_in parts.config parts.image) contents
  given (record parts { steps = parts.steps ++ steps ∷ [] })

-- so for each pair, of which the first has file k
abbrev pub and_schedules : ℕ → List Pair → (Contents → Reads Parts) → Contents → Reads Parts
and_schedules k [] reads = reads
and_schedules k (pair ∷ pairs) reads = and_schedules (suc k) pairs (λ contents. reads contents >>= and_schedule k contents)

-- Each is cut off at its stop; the first stop that is past its steps is refused.
abbrev pub cut_and : Result ℕ Refusal → List Step → Result (List (List Step)) Refusal → Result (List (List Step)) Refusal
cut_and (Err refused) steps more = Err refused
cut_and (Ok count) steps (Err refused) = Err refused
cut_and (Ok count) steps (Ok more) = Ok (take count steps ∷ more)

abbrev pub cut_off_all : List Pair → List (List Step) → Result (List (List Step)) Refusal
cut_off_all [] all = Ok []
cut_off_all (pair ∷ pairs) [] = Ok []
cut_off_all (pair ∷ pairs) (steps ∷ all) = cut_and (or_past (steps_to pair.stop (length steps))) steps (cut_off_all pairs all)

-- what is run of all files, on a bank of so many words
abbrev pub cut_off_parts : ℕ → List Pair → Parts → Reads Parts
cut_off_parts size pairs parts = do
  steps ← decided (cut_off_all pairs parts.steps)
  _ ← decided (bank_holds size (length parts.image.persistent))
  given (record parts { steps = steps })

abbrev pub again_reads : ℕ → List Pair → Contents → Reads Parts
again_reads size pairs contents = do
  parts ← and_schedules 3 pairs program_reads contents
  cut_off_parts size pairs parts

-- how the generations go
pub data Way : Type 0 where
  -- the fill was refused, at module m
  unfilled : (m : ℕ) → Way
  -- these were made and read
  went : List Generation → Way
  -- these were, and the read of the next one was refused, at module m, and maybe before it the store of a step
  unread : List Generation → (store : Option StepFault) → (m : ℕ) → Way

-- the store that was refused in the last of some generations
abbrev pub last_store : List Generation → Option StepFault
last_store [] = None
last_store (g ∷ []) = g.fault
last_store (g ∷ h ∷ gs) = last_store (h ∷ gs)

abbrev pub course_of : Way → Option Course
course_of (unfilled m) = Some (fill m)
course_of (went made) = Some (ran (last_store made) None)
course_of (unread made store m) = Some (ran store (Some m))

-- how a call ends that ends with this generation: with a refused store there is no verdict
abbrev pub end_of : Generation → Status
end_of g = elim g.fault [ None ↦ verdict_status g.least | Some fault ↦ status.ModuleFault ]

-- Each goes on to the next one.
abbrev pub AllGoOn : List Generation → Type 0
AllGoOn [] = Unit {0}
AllGoOn (g ∷ gs) = (end_of g ≡ status.Ok) × AllGoOn gs

-- They are all that these steps are for, or the last one ends the call.
abbrev pub AreAll : List (List Step) → List Generation → Type 0
AreAll [] [] = Unit {0}
AreAll [] (g ∷ gs) = ⊥
AreAll (first ∷ steps) [] = ⊥
AreAll (first ∷ steps) (g ∷ []) = (steps ≡ []) ⊎ ((end_of g ≡ status.Ok) → ⊥)
AreAll (first ∷ steps) (g ∷ h ∷ gs) = (end_of g ≡ status.Ok) × AreAll steps (h ∷ gs)

-- how the call ends
abbrev pub end_of_all : List Generation → Status
end_of_all [] = status.Ok
end_of_all (g ∷ []) = end_of g
end_of_all (g ∷ h ∷ gs) = end_of_all (h ∷ gs)

-- the line of its verdict, where no store was refused
abbrev pub verdict_line : Generation → List ℕ
verdict_line g = elim g.fault [ None ↦ verdict_text g.least | Some fault ↦ [] ]

-- the steps of the generation behind some others
abbrev pub steps_behind : List (List Step) → List Generation → List Step
steps_behind [] made = []
steps_behind (first ∷ steps) [] = first
steps_behind (first ∷ steps) (g ∷ gs) = steps_behind steps gs

module _ (parts : Parts) where
  -- what stands behind the line of a generation
  pub record TellsGeneration (g : Generation) (text : Text) : Type 0 where
    pub report : Text
    pub reports : Reports parts.config.mode (view_after (inputs_of parts.config parts.image g) (made_of g) g.held g.fault) report
    pub is : text ≡ report ++ verdict_line g

  -- The text is that of these generations, of which the first is number k: of each its line, its report and its verdict.
  abbrev pub TellsAll : ℕ → List Generation → Text → Type 0
  TellsAll k [] text = text ≡ []
  TellsAll k (g ∷ gs) text = (told : Text) × (rest : Text) × TellsGeneration g told × TellsAll (suc k) gs rest × (text ≡ generation_line k ++ told ++ rest)

  -- what the next generation runs
  abbrev pub next_inputs : List Generation → Inputs
  next_inputs made = inputs_from parts.config parts.image (words_behind parts.image.persistent made) (steps_behind parts.steps made)

  module _ (before : BankSeen) where
    -- A store that was refused is that of a step which would be done.
    abbrev pub AreStores : List Generation → Type 0
    AreStores [] = Unit {0}
    AreStores (g ∷ gs) = IsStoreOf (inputs_of parts.config parts.image g) before.modules g.fault × AreStores gs

    -- Behind a refused store or a no nothing more is made.
    abbrev pub AllowsWay : Way → Type 0
    AllowsWay (unfilled m) = m < before.modules
    AllowsWay (went made) = AreAll parts.steps made × AreStores made
    AllowsWay (unread made store m) = AllGoOn made × (length made < length parts.steps) × IsStoreOf (next_inputs made) before.modules store × (m < before.modules)

    abbrev pub PutsWay : Way → Status → Text → Type 0
    PutsWay (unfilled m) end text = (end ≡ status.ModuleFault) × (text ≡ module_fault_line (fill_fault m))
    PutsWay (went made) end text = (end ≡ end_of_all made) × AreGenerations parts.config parts.image before.told made × TellsAll 1 made text
    PutsWay (unread made store m) end text = (end ≡ status.ModuleFault) × (text ≡ module_fault_line (read_fault m))

    -- The next generation ran on a bank that held the words of those before it, and a read was refused.
    pub record NextUnread (made : List Generation) (store : Option StepFault) (m : ℕ) (after : BankSeen) : Type 0 where
      pub between : BankSeen
      pub gone : HaveGone parts.config parts.image before between parts.steps made
      pub next : IsUnread (next_inputs made) between after m
      pub store_is : next.fault ≡ store

    abbrev pub LeavesWay : Way → BankSeen → Type 0
    LeavesWay (unfilled m) after = Leaves (inputs parts.config parts.image []) (fill m) before after
    LeavesWay (went made) after = HaveGone parts.config parts.image before after parts.steps made
    LeavesWay (unread made store m) after = NextUnread made store m after

    -- Some generations went on, and no memory was left in the next one.
    pub record StopsNext (after : BankSeen) : Type 0 where
      pub made : List Generation
      pub go_on : AllGoOn made
      pub between : BankSeen
      pub gone : HaveGone parts.config parts.image before between parts.steps made
      pub next : IsOutOfMemory (next_inputs made) between after

    -- what may stand where no memory was left, for the line of a refused fill or behind the fill
    abbrev pub MayLeaveBank : BankSeen → Type 0
    MayLeaveBank after = ((m : ℕ) × LeavesWay (unfilled m) after) ⊎ StopsNext after

    -- The durable set of the next generation, some steps of it made, is allowed, and the bank holds its image.
    pub record NextAllowed (made : List Generation) (steps : List Step) (after : BankSeen) : Type 0 where
      pub between : BankSeen
      pub gone : HaveGone parts.config parts.image before between parts.steps made
      pub durable : IsDurableAllowed (next_inputs made) steps
      pub stands : StandsAfter (next_inputs made) steps between after

    -- The headline: each generation starts with the words that the one before left, leaves an allowed image of them, and is judged so; the bank holds that of the last one.
    abbrev pub HoldsWay : Way → BankSeen → Type 0
    HoldsWay (unfilled m) after = PartFilled (inputs parts.config parts.image []) before after
    HoldsWay (went made) after = HaveGone parts.config parts.image before after parts.steps made
    HoldsWay (unread made store m) after = NextAllowed made (steps_made store (next_inputs made).steps) after

    abbrev pub MayHoldBank : BankSeen → Type 0
    MayHoldBank after =
        PartFilled (inputs parts.config parts.image []) before after ⊎ ((made : List Generation) × (n : ℕ) × NextAllowed made (take n (next_inputs made).steps) after)

    -- A no comes only where the bank doesn't tell its words.
    pub record RefutesLast (text : Text) : Type 0 where
      pub untold : before.told ≡ None
      pub made : List Generation
      pub told : TellsAll 1 made text
      pub last : Generation
      pub word : ℕ
      pub rank : ℕ
      pub verdict : last.least ≡ No word rank
      pub none : (set : Set) → IsJudged parts.config.mode (visible_after (inputs_of parts.config parts.image last) (made_of last)).trace (crash_of last.initial last.held) set → ⊥
      pub refuted : IsRefuted parts.config.mode (visible_after (inputs_of parts.config parts.image last) (made_of last)).trace (crash_of last.initial last.held) word rank

abbrev pub again_rule : (machine image : List ℕ) → List Pair → BankSeen → Rule
again_rule machine image pairs before = record {
  names = machine ∷ image ∷ map (λ (p : Pair). p.schedule) pairs;
  Found = Parts;
  opens = again_reads before.size pairs;
  Way = Way;
  course_of = course_of;
  counted_from = λ way. before;
  Allows = λ parts. AllowsWay parts before;
  Puts = λ parts way after. PutsWay parts before way;
  heading = [];
  Leaves = λ parts. LeavesWay parts before;
  MayLeave = λ parts. MayLeaveBank parts before;
  Holds = λ parts. HoldsWay parts before;
  MayHold = λ parts. MayHoldBank parts before;
  Refutes = λ parts. RefutesLast parts before;
}
