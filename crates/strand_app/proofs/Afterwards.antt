-- Serves clause afterwards of strand_main: what a call leaves in the bank, by what each answer of its rule means.
use Rattle.std.proofs.Common.{◌≡◌, ◌∙◌, Bool, true, false, refl, sym, inl, inr, subst}
use Rattle.std.specs.Prelude.{Some, None}
use Rattle.std.specs.declared.option.Option.{Option}
use Rattle.strand_modules.specs.Bank.{BankSeen}
use Rattle.strand_report.specs.Refusals.{content_is_limit}
use Rattle.strand_report.specs.declared.refusal.Refusal.{Refusal}
use Rattle.strand_report.specs.declared.refusal.Refusal.TheVariants as refusal
use Rattle.strand_run.specs.Fault.{Course, fill, ran}
use Rattle.strand_app.specs.declared.status.Status.{Status}
use Rattle.strand_app.specs.declared.status.Status.TheVariants as status
use Rattle.strand_app.specs.Afterwards.{Afterwards, BankAt, BankAtPut, IsUnrefused, LeftBy}
use Rattle.strand_app.specs.Answers.{content_status, refusal_status}
use Rattle.strand_app.specs.Command.{Command}
use Rattle.strand_app.specs.Rule.{Rule, Text, ShownBy}
use Rattle.strand_app.specs.RuleOf.{rule_of}
use Rattle.strand_app.specs.Runs.{ComesTo, Makes, Runs, Stops}
use Rattle.strand_app.specs.World.{Outside}
use Rattle.strand_app.proofs.Clauses as clause
use Rattle.strand_app.proofs.Laws.{Means, MeetsRefusal, Sound}

unrefused_of : (f : Option Course) → (MeetsRefusal f → ⊥) → IsUnrefused f
unrefused_of None none = tt
unrefused_of (Some (fill m)) none = absurd (none tt)
unrefused_of (Some (ran store (Some n))) none = absurd (none tt)
unrefused_of (Some (ran (Some f) None)) none = absurd (none tt)
unrefused_of (Some (ran None None)) none = refl

-- where nothing was run, the bank is as it was
still_of : (before after : BankSeen) (f : Option Course) → f ≡ None → ShownBy before after f → after ≡ before
still_of before after None none shown = shown
still_of before after (Some c) none shown = cc

-- where the words are no command, nothing is run
pub idle_of : (command : Option Command) (bank : BankSeen) (found : (rule_of command bank).Found) (way : (rule_of command bank).Way) → command ≡ None → (rule_of command bank).Allows found way
    → ((rule_of command bank).course_of way ≡ None) × ((rule_of command bank).counted_from way ≡ bank)
idle_of None bank found way none allowed = (allowed, refl)
idle_of (Some command) bank found way none allowed = cc

module _ (r : Rule) (W : Type 0) (before : Outside) (sound : Sound r before.world.bank W)
    (idle : (found : r.Found) (way : r.Way) → W → r.Allows found way → (r.course_of way ≡ None) × (r.counted_from way ≡ before.world.bank)) (after : Outside) where
  left : (end : Status) (text : Text) (made : Makes r before.world after.world end text) (Such : Option Course → Type 0) → Such (r.course_of made.way) → LeftBy r before.world after.world Such
  left end text made Such such = record { found = made.found; opened = made.opened; way = made.way; such = such; shown = made.shown; leaves = made.leaves }

  unrefused : (end : Status) (text : Text) (made : Makes r before.world after.world end text) → (end ≡ status.ModuleFault → ⊥) → LeftBy r before.world after.world IsUnrefused
  unrefused end text made other =
      left end text made IsUnrefused (unrefused_of (r.course_of made.way) (λ meets. other (sound.answers made.found made.way after.world.bank end text made.allowed made.puts meets)))

  of_made : (end : Status) (text : Text) (made : Makes r before.world after.world end text) → Means r W made.found made.way end text → BankAt r before.world after.world end text
  of_made status.Ok text made means = unrefused status.Ok text made (λ e. cc)
  of_made status.No text made means = unrefused status.No text made (λ e. cc)
  of_made status.ModuleFault text made means = left status.ModuleFault text made _ means
  of_made status.Words text made means =
      let still = idle made.found made.way means made.allowed in still_of (r.counted_from made.way) after.world.bank (r.course_of made.way) still.0 made.shown ∙ still.1
  of_made _ text made means = absurd means

  of_content : (is_limit : Bool) (text : Text) → after.world.bank ≡ before.world.bank → BankAt r before.world after.world (content_status is_limit) text
  of_content true text same = same
  of_content false text same = same

  of_refusal : (refused : Refusal) (text : Text) → after.world.bank ≡ before.world.bank → BankAt r before.world after.world (refusal_status refused) text
  of_refusal (refusal.File k fault) text same = of_content (content_is_limit fault) text same
  of_refusal (refusal.Stop past) text same = same
  of_refusal (refusal.Bank need have) text same = same
  of_refusal (refusal.Size size) text same = same

  bank_at : (end : Status) (text : Text) → ComesTo r before.world after.world end text → BankAt r before.world after.world end text
  bank_at end text (inl made) = of_made end text made (sound.means made.found made.way after.world.bank end text made.puts)
  bank_at end text (inr (inl refuses)) =
      subst (λ (s : Status). BankAt r before.world after.world s text) (sym refuses.status) (of_refusal refuses.refused text refuses.same)
  bank_at end text (inr (inr misses)) = subst (λ (s : Status). BankAt r before.world after.world s text) (sym misses.status) misses.same

  of_stops : Stops r before.world after.world → Afterwards r before after status.Memory
  of_stops (inl stops) = inr (record { found = stops.found; opened = stops.opened; leaves = stops.leaves })
  of_stops (inr (inl stops)) = inl stops.same
  of_stops (inr (inr stops)) = inl stops.same

  put : (result : Status) → (result ≡ status.Memory → ⊥) → (result ≡ status.SinkFault → ⊥) → Runs r before after result → BankAtPut r before after result
  put result memory sink runs = let c = clause.came r W before sound after result memory sink runs in (c.text, c.taken, (c.made, bank_at result c.text c.made))

  pub afterwards_of : (result : Status) → Runs r before after result → Afterwards r before after result
  afterwards_of status.Memory runs = of_stops (clause.memory_of r W before sound after status.Memory runs refl).stops
  afterwards_of status.SinkFault runs =
      let cause = clause.sink_of r W before sound after status.SinkFault runs refl in (cause.end, cause.text, cause.fails.takes, (cause.made, bank_at cause.end cause.text cause.made))
  afterwards_of status.Ok runs = put status.Ok (λ e. cc) (λ e. cc) runs
  afterwards_of status.No runs = put status.No (λ e. cc) (λ e. cc) runs
  afterwards_of status.Words runs = put status.Words (λ e. cc) (λ e. cc) runs
  afterwards_of status.Input runs = put status.Input (λ e. cc) (λ e. cc) runs
  afterwards_of status.FileFault runs = put status.FileFault (λ e. cc) (λ e. cc) runs
  afterwards_of status.ModuleFault runs = put status.ModuleFault (λ e. cc) (λ e. cc) runs
  afterwards_of status.Limit runs = put status.Limit (λ e. cc) (λ e. cc) runs
  afterwards_of status.StopPast runs = put status.StopPast (λ e. cc) (λ e. cc) runs
