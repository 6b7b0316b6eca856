-- judge MACHINE IMAGE SCHEDULE STOP CRASH: the judge's verdict on a crash image, by the trace of a run.
use Rattle.std.specs.Prelude.{◌≡◌, ℕ, List, [], ◌∷◌}
use Rattle.strand_events.specs.Order.{Set}
use Rattle.strand_inputs.specs.declared.stop.Stop.{Stop}
use Rattle.strand_judge.specs.Judged.{IsJudged}
use Rattle.strand_judge.specs.Verdicts.{IsRefuted, IsVerdict}
use Rattle.strand_judge.specs.Words.{crash_of}
use Rattle.strand_judge.specs.declared.verdict.Verdict.{Verdict}
use Rattle.strand_judge.specs.declared.verdict.Verdict.TheVariants.{Yes, No}
use Rattle.strand_modules.specs.Bank.{BankSeen}
use Rattle.strand_report.specs.Verdict.{verdict_text}
use Rattle.strand_again.specs.Inputs.{Inputs}
use Rattle.strand_again.specs.Seen.{visible_after}
use Rattle.strand_app.specs.declared.status.Status.{Status}
use Rattle.strand_app.specs.declared.status.Status.TheVariants as status
use Rattle.strand_app.specs.Contents.{crash_in}
use Rattle.strand_app.specs.Machine.{machine_rule}
use Rattle.strand_app.specs.Reads.{Contents, Reads, file, given, ◌>>=◌}
use Rattle.strand_app.specs.Rule.{Rule, Text}
use Rattle.strand_app.specs.RunFiles.{run_files, cut_off}

-- what is run, and the words of a crash image
pub record Question : Type 0 where
  pub run : Inputs
  pub crash : List ℕ

-- from the crash image on, on a bank of so many words
abbrev pub crash_reads : ℕ → Stop → Contents → Inputs → Reads Question
crash_reads size stop contents all = do
  crash ← file 4 (crash_in all.image) contents
  run ← cut_off size stop all
  given (record { run = run; crash = crash })

abbrev pub judge_reads : ℕ → Stop → Contents → Reads Question
judge_reads size stop contents = do
  all ← run_files contents
  crash_reads size stop contents all

abbrev pub verdict_status : Verdict → Status
verdict_status (Yes list) = status.Ok
verdict_status (No word rank) = status.No

-- The verdict is the judge's, by the visible run: yes with the least judged set, and no exactly where there is none.
pub record PutsVerdict (q : Question) (end : Status) (text : Text) : Type 0 where
  pub judged : Verdict
  pub is : IsVerdict q.run.config.mode (visible_after q.run q.run.steps).trace (crash_of q.run.image.persistent q.crash) judged
  pub line : text ≡ verdict_text judged
  pub status : end ≡ verdict_status judged

-- No set of persists that the order allows has the crash image, and the line names a word and its rank.
pub record RefutesCrash (q : Question) (text : Text) : Type 0 where
  pub word : ℕ
  pub rank : ℕ
  pub none : (set : Set) → IsJudged q.run.config.mode (visible_after q.run q.run.steps).trace (crash_of q.run.image.persistent q.crash) set → ⊥
  pub refuted : IsRefuted q.run.config.mode (visible_after q.run q.run.steps).trace (crash_of q.run.image.persistent q.crash) word rank
  pub line : text ≡ verdict_text (No word rank)

abbrev pub judge_rule : (machine image schedule : List ℕ) → Stop → (crash : List ℕ) → BankSeen → Rule
judge_rule machine image schedule stop crash before =
    machine_rule Question (λ q. q.run) (λ q bank. PutsVerdict q) RefutesCrash (machine ∷ image ∷ schedule ∷ crash ∷ []) (judge_reads before.size stop) before
