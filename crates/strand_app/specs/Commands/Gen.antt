-- gen SEED SIZE: the summary of a generated run to its end, with the judge's verdict on the words that the bank holds then.
use Rattle.std.specs.Prelude.{◌≡◌, ℕ, List, [], ◌++◌, OnSome, Some, None}
use Rattle.std.specs.declared.option.Option.{Option}
use Rattle.strand_events.specs.Order.{Set}
use Rattle.strand_inputs.specs.declared.stop.Stop.TheVariants.{End}
use Rattle.strand_judge.specs.Judged.{IsJudged}
use Rattle.strand_judge.specs.Verdicts.{IsRefuted, IsYesWithin}
use Rattle.strand_judge.specs.Words.{crash_of}
use Rattle.strand_judge.specs.declared.verdict.Verdict.TheVariants.{No}
use Rattle.strand_modules.specs.Bank.{BankSeen}
use Rattle.strand_report.specs.FaultLines.{module_fault_line}
use Rattle.strand_report.specs.Summary.{gen_line, summary_text}
use Rattle.strand_report.specs.declared.module_fault.ModuleFault.{ModuleFault}
use Rattle.strand_report.specs.declared.summary.Summary.{Summary}
use Rattle.strand_run.specs.Fault.{Course, fill, ran}
use Rattle.strand_again.specs.Inputs.{Inputs}
use Rattle.strand_again.specs.Seen.{AreHeld, visible_after, durable_after}
use Rattle.strand_run.specs.Seen.{view_after, fill_fault, read_fault, store_fault}
use Rattle.strand_run.specs.Summed.{Sums}
use Rattle.strand_app.specs.declared.status.Status.{Status}
use Rattle.strand_app.specs.declared.status.Status.TheVariants as status
use Rattle.strand_app.specs.Commands.Judge.{verdict_status}
use Rattle.strand_app.specs.Generated.{generated}
use Rattle.strand_app.specs.Machine.{stepping_rule}
use Rattle.strand_app.specs.Reads.{Reads, decided, ◌>>=◌}
use Rattle.strand_app.specs.Rule.{Rule, Text}
use Rattle.strand_app.specs.RunFiles.{cut_off}

-- all steps, on a bank of so many words
abbrev pub gen_reads : (bank seed size : ℕ) → Reads Inputs
gen_reads bank seed size = do
  u ← decided (generated seed size)
  cut_off bank End u

module _ (seed size : ℕ) where
  -- the command's line, and then the line of what a module refused; there is no report, even where steps were made
  abbrev pub PutsFault : ModuleFault → Status → Text → Type 0
  PutsFault fault end text = (end ≡ status.ModuleFault) × (text ≡ gen_line seed size ++ module_fault_line fault)

  module _ (u : Inputs) (before : BankSeen) where
    -- The command's line, and then the summary of the visible run and of the words that were read.
    -- Where the bank tells its words the judge says yes to them, with a set within the durable one.
    pub record PutsSummary (end : Status) (text : Text) : Type 0 where
      pub held : List ℕ
      pub are_held : AreHeld u u.steps before held
      pub summary : Summary
      pub sums : Sums u.config.mode (view_after u u.steps held None) u.image.persistent summary
      pub yes : OnSome before.told (IsYesWithin (visible_after u u.steps).trace (durable_after u u.steps) summary.verdict)
      pub lines : text ≡ gen_line seed size ++ summary_text summary
      pub status : end ≡ verdict_status summary.verdict

    -- A no comes only where the bank doesn't tell its words: no set of persists that the order allows has those that were read.
    pub record RefutesHeld (text : Text) : Type 0 where
      pub untold : before.told ≡ None
      pub held : List ℕ
      pub word : ℕ
      pub rank : ℕ
      pub none : (set : Set) → IsJudged u.config.mode (visible_after u u.steps).trace (crash_of u.image.persistent held) set → ⊥
      pub refuted : IsRefuted u.config.mode (visible_after u u.steps).trace (crash_of u.image.persistent held) word rank
      pub summary : Summary
      pub verdict : summary.verdict ≡ No word rank
      pub lines : text ≡ gen_line seed size ++ summary_text summary

    -- by what a module refused
    abbrev pub PutsLines : Option ModuleFault → Status → Text → Type 0
    PutsLines None end text = PutsSummary end text
    PutsLines (Some fault) end text = PutsFault fault end text

-- what a module refused in a course: where it was a store and then a read, the read
abbrev pub refused_in : Course → Option ModuleFault
refused_in (fill m) = Some (fill_fault m)
refused_in (ran store (Some n)) = Some (read_fault n)
refused_in (ran (Some f) None) = Some (store_fault f)
refused_in (ran None None) = None

abbrev pub PutsGen : (seed size : ℕ) → Inputs → BankSeen → Course → Status → Text → Type 0
PutsGen seed size u before course = PutsLines seed size u before (refused_in course)

abbrev pub gen_rule : (seed size : ℕ) → BankSeen → Rule
gen_rule seed size before =
    stepping_rule Inputs (λ u. u) (gen_line seed size) (PutsGen seed size) (λ u. RefutesHeld seed size u before) [] (λ contents. gen_reads before.size seed size) before
