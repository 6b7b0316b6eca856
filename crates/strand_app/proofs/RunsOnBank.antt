-- Serves clause runs of strand_main, for run, judge, trace and gen: a run on the bank and the answer of it.
use Rattle.std.proofs.Common.{◌≡◌, ℕ, ◌-◌, ◌≤◌, List, length, true, false, refl, sym, ap, ◌∙◌, arith, inl, inr, subst}
use Rattle.std.specs.Prelude.{None, Some, Ok, Err, IfSome, IfOk, OnErr}
use Rattle.std.specs.Result.{IsErr}
use Rattle.std.specs.Option.{is_some}
use Rattle.std.specs.declared.option.Option.{Option}
use Rattle.std.specs.declared.result.Result.{Result}
use Rattle.std.proofs.lemmas.Option.{slice_get_within}
use Rattle.strand_base.specs.declared.out_of_memory.OutOfMemory.{OutOfMemory}
use Rattle.strand_events.specs.declared.event.Event.{Event}
use Rattle.strand_judge.specs.Verdicts.{IsVerdict}
use Rattle.strand_judge.specs.Words.{crash_of}
use Rattle.strand_modules.specs.Bank.{BankSeen, Keeps}
use Rattle.strand_report.specs.FaultLines.{module_fault_line}
use Rattle.strand_report.specs.Report.{View}
use Rattle.strand_rules.specs.declared.turn.StepFault.{StepFault}
use Rattle.strand_rules.specs.Machine.{program_of, start_of}
use Rattle.strand_rules.specs.Run.{CanFail}
use Rattle.strand_run.specs.Fault.{Course, fill, ran}
use Rattle.strand_again.specs.Inputs.{Inputs}
use Rattle.strand_run.specs.Outcome.{Allows, Leaves, MayLeave, RunsTo, TellsRun, view_of}
use Rattle.strand_again.specs.Seen.{visible_after}
use Rattle.strand_run.specs.Seen.{Reports, ReportsRun, fill_fault, read_fault}
use Rattle.strand_again.specs.Stepping.{steps_made}
use Rattle.strand_again.specs.declared.running.Ran.{Ran as Run}
use Rattle.strand_run.specs.declared.running.RunEnd.{RunEnd}
use Rattle.strand_run.specs.declared.running.RunEnd.TheVariants.{FillRefused, ReadRefused, Told}
use Rattle.strand_run.proofs.RunImage.{may_after}
use Rattle.strand_app.specs.declared.commands.judge.Question.{Question as CodeQuestion}
use Rattle.strand_app.specs.declared.running.Ran.{Ran}
use Rattle.strand_app.specs.declared.running.Ran.TheVariants.{Whole, Refused}
use Rattle.strand_app.specs.declared.status.Made.{Made}
use Rattle.strand_app.specs.declared.status.Status.{Status}
use Rattle.strand_app.specs.declared.status.Status.TheVariants as status
use Rattle.strand_app.specs.Commands.Judge.{PutsVerdict}
use Rattle.strand_app.specs.declared.commands.check.Claim.{Claim as CodeClaim}
use Rattle.strand_app.specs.Checking.{TellsChecked, claim_of}
use Rattle.strand_app.specs.Commands.Check.{PutsChecked}
use Rattle.strand_refute.specs.Checked.{IsChecked, SaysAccepted}
use Rattle.strand_app.specs.Commands.Refute.{RefutesOrAllows, PutsRefutation}
use Rattle.strand_app.specs.Judging.{TellsVerdict, question_of}
use Rattle.strand_app.specs.Refuting.{TellsRefutation}
use Rattle.strand_app.specs.Machine.{PutsRun}
use Rattle.strand_app.specs.Opening.{inputs_of}
use Rattle.strand_app.specs.Rule.{Text}
use Rattle.strand_app.specs.Running.{Answers, RunsOnBank, PutsOnBank, MakesByCourse, MakesOnBank}

-- where no memory is left for the answer, the bank is one that may be left
pub may_leave : (u : Inputs) (count : ℕ) (fault : Course) (before after : BankSeen) → Allows count u fault → Leaves u fault before after → MayLeave u before after
may_leave u count (fill m) before after allowed leaves = record {
  stands = inr (inl (leaves.0, leaves.2));
  accepted = record { stores = leaves.0; reads = 0; few_stores = omega (arith, leaves.2.0); few_reads = omega arith; accepts = leaves.3 };
}
may_leave u count (ran store None) before after allowed leaves = may_after u count store (length u.image.persistent) before after allowed.0 (omega arith) leaves
may_leave u count (ran store (Some n)) before after allowed leaves = may_after u count store leaves.0 before after allowed.0 (omega (arith, leaves.1)) leaves.3

-- the report of a run that was told is the visible run's
pub reports_run : (u : Inputs) (before : BankSeen) (r : Run) (text : Text) → TellsRun u before r → Reports u.config.mode (view_of r) text → ReportsRun u (steps_made r.fault u.steps) before r.fault text
reports_run u before r text tells reports = record { held = r.held; are_held = tells.held; reports = subst (λ (v : View). Reports u.config.mode v text) tells.view reports }

-- the trace of a run that met no refusal is the visible run's
pub trace_is : (u : Inputs) (before : BankSeen) (r : Run) → r.fault ≡ None → TellsRun u before r → (view_of r).trace ≡ (visible_after u u.steps).trace
trace_is u before r none tells =
    ap (λ (v : View). v.trace) tells.view ∙ ap (λ (f : Option StepFault). (visible_after u (steps_made f u.steps)).trace) none

module _ (u : Inputs) (before after : BankSeen) where
  pub ran_refused : (r : Run) (made : Made) → RunsTo u before after (Told r) → is_some r.fault ≡ true → made.status ≡ status.ModuleFault → Reports u.config.mode (view_of r) made.text.items
      → RunsOnBank u before after (Refused made)
  ran_refused r made runs some end reports = go r.fault refl some
    where
      go : (o : Option StepFault) → r.fault ≡ o → is_some o ≡ true → RunsOnBank u before after (Refused made)
      go None is none = cc
      go (Some f) is some = record {
        fault = runs.fault;
        allowed = runs.allowed;
        shown = runs.shown;
        kept = runs.kept;
        leaves = runs.leaves;
        is = subst (λ (b : Course). PutsRun u before (λ e t. ⊥) b made.status made.text.items) (sym (runs.is.0 ∙ ap (λ (x : Option StepFault). ran x None) is)) (
          end,
          subst (λ (x : Option StepFault). ReportsRun u (steps_made x u.steps) before x made.text.items) is (reports_run u before r made.text.items runs.is.1 reports),
        );
      }

  -- no module refused
  pub ran_whole : (r : Run) → RunsTo u before after (Told r) → is_some r.fault ≡ false → RunsOnBank u before after (Whole r)
  ran_whole r runs none = go r.fault refl none
    where
      go : (o : Option StepFault) → r.fault ≡ o → is_some o ≡ false → RunsOnBank u before after (Whole r)
      go (Some f) is none = cc
      go None is none = record {
        fault = runs.fault;
        allowed = runs.allowed;
        shown = runs.shown;
        kept = runs.kept;
        leaves = runs.leaves;
        is = (runs.is.0 ∙ ap (λ (x : Option StepFault). ran x None) is, is, runs.is.1);
      }

  -- a module refused the fill
  pub fill_refused : (m : ℕ) (result : Result Ran OutOfMemory) → RunsTo u before after (FillRefused m) → IfOk result (Answers (module_fault_line (fill_fault m))) → IfOk result (RunsOnBank u before after)
  fill_refused m (Err e) runs answers = tt
  fill_refused m (Ok (Whole r)) runs answers = absurd answers
  fill_refused m (Ok (Refused made)) runs answers = record {
    fault = runs.fault;
    allowed = runs.allowed;
    shown = runs.shown;
    kept = runs.kept;
    leaves = runs.leaves;
    is = subst (λ (b : Course). PutsRun u before (λ e t. ⊥) b made.status made.text.items) (sym runs.is) answers;
  }

  -- a module refused the read
  pub read_refused : (m : ℕ) (result : Result Ran OutOfMemory) → RunsTo u before after (ReadRefused m) → IfOk result (Answers (module_fault_line (read_fault m))) → IfOk result (RunsOnBank u before after)
  read_refused m (Err e) runs answers = tt
  read_refused m (Ok (Whole r)) runs answers = absurd answers
  read_refused m (Ok (Refused made)) runs answers = record {
    fault = runs.fault;
    allowed = runs.allowed;
    shown = runs.shown;
    kept = runs.kept;
    leaves = runs.leaves;
    is = subst (λ (b : Course). PutsRun u before (λ e t. ⊥) b made.status made.text.items) (sym runs.is.1) answers;
  }

  pub may_of : {T : Type 0} (result : Result T OutOfMemory) (end : RunEnd) → RunsTo u before after end → OnErr result (Keeps before after × MayLeave u before after)
  may_of (Ok x) end runs = tt
  may_of (Err e) end runs = (runs.kept, may_leave u before.modules runs.fault before after runs.allowed runs.leaves)

  pub puts_whole : (Puts : Status → Text → Type 0) (r : Run) (made : Made) → RunsOnBank u before after (Whole r) → Puts made.status made.text.items → PutsOnBank u before after Puts made
  puts_whole Puts r made runs puts = record {
    fault = runs.fault;
    allowed = runs.allowed;
    shown = runs.shown;
    kept = runs.kept;
    leaves = runs.leaves;
    puts = subst (λ (f : Course). PutsRun u before Puts f made.status made.text.items) (sym runs.is.0) puts;
  }

  pub may_on_bank : (result : Ran) → RunsOnBank u before after result → Keeps before after × MayLeave u before after
  may_on_bank result runs = (runs.kept, may_leave u before.modules runs.fault before after runs.allowed runs.leaves)

  -- no memory was left for the run
  pub stops_with : (Puts : Course → Status → Text → Type 0) (result : Result Made OutOfMemory) → IsErr result → Keeps before after × MayLeave u before after → MakesByCourse u before after Puts result
  stops_with Puts (Ok made) err may = cc
  stops_with Puts (Err e) err may = may

  -- no memory was left for the text
  pub stops_on_bank : (Puts : Status → Text → Type 0) (end : Ran) (result : Result Made OutOfMemory) → RunsOnBank u before after end → IsErr result → MakesOnBank u before after Puts result
  stops_on_bank Puts end (Ok made) runs err = cc
  stops_on_bank Puts end (Err e) runs err = may_on_bank end runs

  -- a verdict by the trace of a run that met no refusal
  pub verdict_on_bank : (q : CodeQuestion) → u ≡ inputs_of q.setup → (r : Run) (result : Result Made OutOfMemory) → RunsOnBank u before after (Whole r) → IfOk result (TellsVerdict q r)
      → MakesOnBank u before after (PutsVerdict (question_of q)) result
  verdict_on_bank q is r (Err e) runs tells = may_on_bank (Whole r) runs
  verdict_on_bank q is r (Ok made) runs tells =
      let same = subst (λ (x : Inputs). (view_of r).trace ≡ (visible_after x x.steps).trace) is (trace_is u before r runs.is.1 runs.is.2) in
      puts_whole (PutsVerdict (question_of q)) r made runs (record {
        judged = tells.judged;
        is = subst (λ (t : List Event). IsVerdict q.setup.files.config.mode t (crash_of q.setup.files.image.persistent q.crash) tells.judged) same tells.is;
        line = tells.line;
        status = tells.status;
      })

  -- a refutation by the trace of a run that met no refusal
  pub refutation_on_bank : (q : CodeQuestion) → u ≡ inputs_of q.setup → (r : Run) (result : Result Made OutOfMemory) → RunsOnBank u before after (Whole r) → IfOk result (TellsRefutation q r)
      → MakesOnBank u before after (PutsRefutation (question_of q)) result
  refutation_on_bank q is r (Err e) runs tells = may_on_bank (Whole r) runs
  refutation_on_bank q is r (Ok made) runs tells =
      let same = subst (λ (x : Inputs). (view_of r).trace ≡ (visible_after x x.steps).trace) is (trace_is u before r runs.is.1 runs.is.2) in
      puts_whole (PutsRefutation (question_of q)) r made runs (subst (λ (t : List Event). RefutesOrAllows q.setup.files.config.mode t (crash_of q.setup.files.image.persistent q.crash) made.status made.text.items) same tells)

  -- what the check says by the trace of a run that met no refusal
  pub checked_on_bank : (q : CodeClaim) → u ≡ inputs_of q.setup → (r : Run) (result : Result Made OutOfMemory) → RunsOnBank u before after (Whole r) → IfOk result (TellsChecked q r)
      → MakesOnBank u before after (PutsChecked (claim_of q)) result
  checked_on_bank q is r (Err e) runs tells = may_on_bank (Whole r) runs
  checked_on_bank q is r (Ok made) runs tells =
      let same = subst (λ (x : Inputs). (view_of r).trace ≡ (visible_after x x.steps).trace) is (trace_is u before r runs.is.1 runs.is.2) in
      puts_whole (PutsChecked (claim_of q)) r made runs (record {
        checked = tells.checked;
        is = subst (λ (t : List Event). IsChecked q.setup.files.config.mode t (crash_of q.setup.files.image.persistent q.crash) q.certificate tells.checked) same tells.is;
        none = subst (λ (t : List Event). SaysAccepted q.setup.files.config.mode t (crash_of q.setup.files.image.persistent q.crash) tells.checked) same tells.none;
        line = tells.line;
        status = tells.status;
      })
