-- Serves clause runs of strand_main, for each command: what comes of it, by its files and its run.
use Rattle.std.proofs.Common.{ℕ, List, [], ◌∷◌, refl, inl, inr}
use Rattle.std.specs.Prelude.{Some, None, Ok, Err, IfOk}
use Rattle.std.specs.declared.result.Result.{Result}
use Rattle.strand_base.specs.FilesSeen.{FilesSeen}
use Rattle.strand_base.specs.declared.out_of_memory.OutOfMemory.{OutOfMemory as NoMemory}
use Rattle.strand_modules.specs.Bank.{BankSeen}
use Rattle.strand_modules.proofs.FrontWords.{keeps_same}
use Rattle.strand_report.specs.declared.refusal.ContentFault.{ContentFault}
use Rattle.strand_run.specs.Fault.{Course}
use Rattle.strand_again.specs.Inputs.{Inputs}
use Rattle.strand_app.specs.declared.fetching.OpenFault.{OpenFault}
use Rattle.strand_app.specs.declared.fetching.OpenFault.TheVariants.{Fetch, Refused, OutOfMemory}
use Rattle.strand_app.specs.declared.status.Made.{Made}
use Rattle.strand_app.specs.declared.status.Status.{Status}
use Rattle.strand_app.specs.Answers.{AnswersFault, PutsOk}
use Rattle.strand_app.specs.Fetching.{FetchesFile}
use Rattle.strand_app.specs.Files.{Opened, Missed, Unread}
use Rattle.strand_app.specs.Machine.{PutsRun, machine_rule, stepping_rule}
use Rattle.strand_app.specs.Opening.{OpensTo}
use Rattle.strand_app.specs.Reads.{Contents, Reads, file}
use Rattle.strand_app.specs.Rule.{Rule, Text}
use Rattle.strand_app.specs.Running.{MakesByCourse, MakesOnBank}
use Rattle.strand_app.specs.Runs.{Comes}
use Rattle.strand_app.specs.Still.{still_rule}
use Rattle.strand_app.specs.World.{world}
use Rattle.strand_app.proofs.OpensTo.{one_opened, one_failed}

-- a file that didn't come is one that wasn't read
unread : {V : Type 0} (names : List (List ℕ)) (reads : Contents → Reads V) (before after : FilesSeen) (k : ℕ) → Missed names reads before after k → Unread names reads before after
unread names reads before after k missed = record {
  contents = missed.contents;
  wanted = missed.wanted;
  few = record { first = missed.fails.first; told = missed.fails.told; later = missed.fails.later; few = inr missed.fails.count };
}

-- The files didn't come, or what they say is refused.
pub refused_comes : (r : Rule) {W : Type 0} (view : W → r.Found) (before after : FilesSeen) (bank : BankSeen) (fault : OpenFault) (result : Result Made NoMemory) → OpensTo r.names r.opens view before after (Err fault)
    → IfOk result (AnswersFault fault) → Comes r (world before bank) (world after bank) result
refused_comes r view before after bank (Refused refused) (Ok made) opened answers = inr (inl (record { refused = refused; opened = opened; same = refl; status = answers.0; line = answers.1 }))
refused_comes r view before after bank (Refused refused) (Err e) opened answers = inr (inl (record { refused = refused; opened = opened; same = refl }))
refused_comes r view before after bank (Fetch k) (Ok made) missed answers = inr (inr (record { file = k; missed = missed; same = refl; status = answers.0; line = answers.1 }))
refused_comes r view before after bank (Fetch k) (Err e) missed answers = inr (inr (record { unread = unread r.names r.opens before after k missed; same = refl }))
refused_comes r view before after bank OutOfMemory (Ok made) is answers = absurd answers
refused_comes r view before after bank OutOfMemory (Err e) is answers = inr (inr (record { unread = is; same = refl }))

-- A text was made of what the files say, and nothing was run on the bank.
pub still_comes : (Found : Type 0) (names : List (List ℕ)) (opens : Contents → Reads Found) (text_of : Found → Text) (before after : FilesSeen) (bank : BankSeen) (found : Found) (result : Result Made NoMemory)
    → Opened names opens before after (Ok found) → IfOk result (PutsOk (text_of found)) → Comes (still_rule Found names opens text_of bank) (world before bank) (world after bank) result
still_comes Found names opens text_of before after bank found (Ok made) opened puts =
    inl (record { found = found; opened = opened; way = None; allowed = refl; shown = refl; kept = keeps_same bank; leaves = refl; puts = puts })
still_comes Found names opens text_of before after bank found (Err e) opened puts = inl (record { found = found; opened = opened; kept = keeps_same bank; leaves = refl })

-- so for a command of one file
module _ {Found : Type 0} (rule : List ℕ → Result Found ContentFault) (text_of : Found → Text) (name : List ℕ) (before after : FilesSeen) (bank : BankSeen) where
  pub one_file_comes : (found : Found) (result : Result Made NoMemory) → FetchesFile 1 rule (λ f. f) name before after (Ok found) → IfOk result (PutsOk (text_of found))
      → Comes (still_rule Found (name ∷ []) (file 1 rule) text_of bank) (world before bank) (world after bank) result
  one_file_comes found result fetches puts = still_comes Found (name ∷ []) (file 1 rule) text_of before after bank found result (one_opened rule (λ f. f) name before after found fetches) puts

  pub one_file_refused : (fault : OpenFault) (result : Result Made NoMemory) → FetchesFile 1 rule (λ f. f) name before after (Err fault) → IfOk result (AnswersFault fault)
      → Comes (still_rule Found (name ∷ []) (file 1 rule) text_of bank) (world before bank) (world after bank) result
  one_file_refused fault result fetches answers =
      refused_comes (still_rule Found (name ∷ []) (file 1 rule) text_of bank) (λ f. f) before after bank fault result (one_failed rule (λ f. f) name before after fault fetches) answers

-- What the files say was run on the bank.
pub stepping_comes : (Found : Type 0) (inputs_of : Found → Inputs) (heading : Text) (Puts : Found → BankSeen → Course → Status → Text → Type 0) (MeansNo : Found → Text → Type 0) (names : List (List ℕ)) (opens : Contents → Reads Found)
    (before after : FilesSeen) (bank bank' : BankSeen) (found : Found) (result : Result Made NoMemory) → Opened names opens before after (Ok found) → MakesByCourse (inputs_of found) bank bank' (Puts found bank) result
    → Comes (stepping_rule Found inputs_of heading Puts MeansNo names opens bank) (world before bank) (world after bank') result
stepping_comes Found inputs_of heading Puts MeansNo names opens before after bank bank' found (Ok made) opened puts =
    inl (record { found = found; opened = opened; way = Some puts.fault; allowed = puts.allowed; shown = puts.shown; kept = puts.kept; leaves = puts.leaves; puts = puts.puts })
stepping_comes Found inputs_of heading Puts MeansNo names opens before after bank bank' found (Err e) opened may = inl (record { found = found; opened = opened; kept = may.0; leaves = may.1 })

pub machine_comes : (Found : Type 0) (inputs_of : Found → Inputs) (Whole : Found → BankSeen → Status → Text → Type 0) (MeansNo : Found → Text → Type 0) (names : List (List ℕ)) (opens : Contents → Reads Found)
    (before after : FilesSeen) (bank bank' : BankSeen) (found : Found) (result : Result Made NoMemory) → Opened names opens before after (Ok found) → MakesOnBank (inputs_of found) bank bank' (Whole found bank) result
    → Comes (machine_rule Found inputs_of Whole MeansNo names opens bank) (world before bank) (world after bank') result
machine_comes Found inputs_of Whole = stepping_comes Found inputs_of [] (λ found bank. PutsRun (inputs_of found) bank (Whole found bank))
