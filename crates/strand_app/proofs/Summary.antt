-- Serves clause runs of strand_main, for gen: its summary, and the answer where a module refused.
use Rattle.std.proofs.Common.{◌≡◌, ℕ, List, length, refl, sym, ap, ◌∙◌, subst}
use Rattle.std.specs.Prelude.{None, Some, Ok, Err, IfOk, OnSome}
use Rattle.std.specs.Option.{option_map}
use Rattle.std.specs.declared.option.Option.{Option}
use Rattle.std.specs.declared.result.Result.{Result}
use Rattle.strand_base.specs.declared.out_of_memory.OutOfMemory.{OutOfMemory}
use Rattle.strand_judge.specs.Verdicts.{IsVerdict, IsYesWithin}
use Rattle.strand_judge.specs.Words.{crash_of}
use Rattle.strand_modules.specs.Bank.{BankSeen}
use Rattle.strand_report.specs.Report.{View}
use Rattle.strand_report.specs.declared.module_fault.ModuleFault.{ModuleFault}
use Rattle.strand_report.specs.declared.summary.Summary.{Summary}
use Rattle.strand_rules.specs.declared.turn.StepFault.{StepFault}
use Rattle.strand_run.specs.Fault.{Course, ran}
use Rattle.strand_again.specs.Inputs.{Inputs}
use Rattle.strand_run.specs.Outcome.{IsEnd, Leaves, RunsTo, view_of}
use Rattle.strand_again.specs.Seen.{AreHeld, durable_after, image_after, visible_after}
use Rattle.strand_run.specs.Seen.{fill_fault, read_fault, store_fault, view_after}
use Rattle.strand_again.specs.Stepping.{steps_made}
use Rattle.strand_run.specs.Summed.{Sums}
use Rattle.strand_again.specs.declared.running.Ran.{Ran as Run}
use Rattle.strand_run.specs.declared.running.RunEnd.{RunEnd}
use Rattle.strand_run.specs.declared.running.RunEnd.TheVariants.{FillRefused, ReadRefused, Told}
use Rattle.strand_run.proofs.LeavesAllowed.{leaves_allowed}
use Rattle.strand_app.specs.declared.opening.Setup.{Setup}
use Rattle.strand_app.specs.declared.status.Made.{Made}
use Rattle.strand_app.specs.Commands.Gen.{PutsFault, PutsGen, PutsLines, PutsSummary, refused_in}
use Rattle.strand_app.specs.Opening.{inputs_of}
use Rattle.strand_app.specs.Running.{MakesByCourse}
use Rattle.strand_app.specs.Summing.{TellsSummary}
use Rattle.strand_app.proofs.RunsOnBank.{may_leave}

-- what a module refused, by the end of the run
abbrev pub refusal_of : RunEnd → Option ModuleFault
refusal_of (FillRefused m) = Some (fill_fault m)
refusal_of (ReadRefused n) = Some (read_fault n)
refusal_of (Told r) = option_map store_fault r.fault

of_store : (store : Option StepFault) → refused_in (ran store None) ≡ option_map store_fault store
of_store None = refl
of_store (Some f) = refl

refused_is : (u : Inputs) (before : BankSeen) (end : RunEnd) (course : Course) → IsEnd u before end course → refused_in course ≡ refusal_of end
refused_is u before (FillRefused m) course is = ap refused_in is
refused_is u before (ReadRefused n) course is = ap refused_in is.1
refused_is u before (Told r) course is = ap refused_in is.0 ∙ of_store r.fault

no_store : (store : Option StepFault) → option_map store_fault store ≡ None → store ≡ None
no_store None is = refl
no_store (Some f) is = cc

module _ (seed size : ℕ) (u : Inputs) (before after : BankSeen) (end : RunEnd) (runs : RunsTo u before after end) where
  made_by : (result : Result Made OutOfMemory) → IfOk result (λ made. PutsLines seed size u before (refusal_of end) made.status made.text.items) → MakesByCourse u before after (PutsGen seed size u before) result
  made_by (Ok made) puts = record {
    fault = runs.fault;
    allowed = runs.allowed;
    shown = runs.shown;
    kept = runs.kept;
    leaves = runs.leaves;
    puts = subst (λ (o : Option ModuleFault). PutsLines seed size u before o made.status made.text.items) (sym (refused_is u before end runs.fault runs.is)) puts;
  }
  made_by (Err e) puts = (runs.kept, may_leave u before.modules runs.fault before after runs.allowed runs.leaves)

  pub gen_refused : (result : Result Made OutOfMemory) (fault : ModuleFault) → refusal_of end ≡ Some fault → IfOk result (λ made. PutsFault seed size fault made.status made.text.items)
      → MakesByCourse u before after (PutsGen seed size u before) result
  gen_refused result fault is puts = made_by result (subst (λ (o : Option ModuleFault). IfOk result (λ made. PutsLines seed size u before o made.status made.text.items)) (sym is) puts)

  pub gen_told : (result : Result Made OutOfMemory) → refusal_of end ≡ None → IfOk result (λ made. PutsSummary seed size u before made.status made.text.items) → MakesByCourse u before after (PutsGen seed size u before) result
  gen_told result is puts = made_by result (subst (λ (o : Option ModuleFault). IfOk result (λ made. PutsLines seed size u before o made.status made.text.items)) (sym is) puts)

-- where the bank told its words, the verdict on those that were read is the one on the image of the durable set
yes_told : (u : Inputs) (before after : BankSeen) (s : Summary) (held : List ℕ) → Leaves u (ran None None) before after → AreHeld u u.steps before held
    → IsVerdict u.config.mode (visible_after u u.steps).trace (crash_of u.image.persistent held) s.verdict → OnSome before.told (IsYesWithin (visible_after u u.steps).trace (durable_after u u.steps) s.verdict)
yes_told u before after s held leaves are is = go before.told are.words
  where
    go : (told : Option (List ℕ)) → OnSome told (held ≡ image_after u u.steps) → OnSome told (IsYesWithin (visible_after u u.steps).trace (durable_after u u.steps) s.verdict)
    go None same = tt
    go (Some words) same =
        (leaves_allowed u (ran None None) before after leaves).judged s.verdict (subst (λ (h : List ℕ). IsVerdict u.config.mode (visible_after u u.steps).trace (crash_of u.image.persistent h) s.verdict) same is)

module _ (seed size : ℕ) (u : Inputs) (before after : BankSeen) (r : Run) (runs : RunsTo u before after (Told r)) (none : option_map store_fault r.fault ≡ None) where
  whole : r.fault ≡ None
  whole = no_store r.fault none

  view_is : view_of r ≡ view_after u u.steps r.held None
  view_is = subst (λ (f : Option StepFault). view_of r ≡ view_after u (steps_made f u.steps) r.held f) whole runs.is.1.view

  are_held : AreHeld u u.steps before r.held
  are_held = subst (λ (f : Option StepFault). AreHeld u (steps_made f u.steps) before r.held) whole runs.is.1.held

  leaves : Leaves u (ran None None) before after
  leaves = subst (λ (c : Course). Leaves u c before after) (runs.is.0 ∙ ap (λ (f : Option StepFault). ran f None) whole) runs.leaves

  puts_summary : (setup : Setup) (made : Made) → u ≡ inputs_of setup → TellsSummary seed size setup r made → PutsSummary seed size u before made.status made.text.items
  puts_summary setup made is tells =
      let by_view = subst (λ (v : Inputs). Sums v.config.mode (view_of r) v.image.persistent tells.summary) (sym is) tells.sums in
      let sums = subst (λ (v : View). Sums u.config.mode v u.image.persistent tells.summary) view_is by_view in record {
        held = r.held;
        are_held = are_held;
        summary = tells.summary;
        sums = sums;
        yes = yes_told u before after tells.summary r.held leaves are_held sums.judged;
        lines = tells.lines;
        status = tells.status;
      }

  pub gen_summed : (setup : Setup) (result : Result Made OutOfMemory) → u ≡ inputs_of setup → IfOk result (TellsSummary seed size setup r) → MakesByCourse u before after (PutsGen seed size u before) result
  gen_summed setup (Ok made) is tells = gen_told seed size u before after (Told r) runs (Ok made) none (puts_summary setup made is tells)
  gen_summed setup (Err e) is tells = gen_told seed size u before after (Told r) runs (Err e) none tells
