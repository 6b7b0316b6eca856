-- The summary of a run.
use Rattle.std.specs.Prelude.{◌≡◌, ℕ, ◌-◌, ◌≤◌, List, length}
use Rattle.strand_inputs.specs.declared.mode.Mode.{Mode}
use Rattle.strand_events.specs.Trace.{persists_of}
use Rattle.strand_judge.specs.Verdicts.{IsVerdict}
use Rattle.strand_judge.specs.Words.{crash_of}
use Rattle.strand_path.specs.Chains.{IsChain}
use Rattle.strand_path.specs.Chosen.{IsChosenChain}
use Rattle.strand_report.specs.Persists.{marked}
use Rattle.strand_report.specs.Report.{View}
use Rattle.strand_report.specs.declared.summary.Summary.{Summary}

-- Its persists, those that are durable, the members of the chosen chain, than which none is longer, and the steps that did something;
-- and the judge's verdict on the words that were read, where these were the first ones.
pub record Sums (mode : Mode) (view : View) (initial : List ℕ) (s : Summary) : Type 0 where
  pub persists : s.persists ≡ length (persists_of view.trace)
  pub durable : s.durable ≡ length (marked view.durable)
  pub chain : List ℕ
  pub chosen : IsChosenChain mode view.trace chain
  pub longest : (other : List ℕ) → IsChain mode view.trace other → length other ≤ length chain
  pub path : s.path ≡ length chain
  pub done : s.done ≡ view.stop - length view.bubbles
  pub judged : IsVerdict mode view.trace (crash_of initial view.held) s.verdict
