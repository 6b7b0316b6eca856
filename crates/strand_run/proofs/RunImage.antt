-- Serves clauses ran and memory of run_image: the fill, the steps and the read.
use Rattle.std.proofs.Common.{◌≡◌, ℕ, ◌+◌, ◌≤◌, List, ◌++◌, ◌%◌, length, take, drop, refl, sym, ap, ◌∙◌, arith, inl, inr, subst}
use Rattle.std.specs.Prelude.{◌⊎◌, None, Some, IfSome, Ok, OnSome}
use Rattle.std.specs.declared.option.Option.{Option}
use Rattle.strand_inputs.specs.declared.step.Step.{Step}
use Rattle.strand_modules.specs.Bank.{BankSeen, Fills, Keeps, front_written, read_refused, store_refused, reads_accepted, stores_accepted}
use Rattle.strand_modules.proofs.AcceptedCalls.{reads_none, stores_again, stores_none}
use Rattle.strand_modules.proofs.FrontWords.{keeps_same, keeps_trans, refuses_after}
use Rattle.strand_report.specs.Report.{View}
use Rattle.strand_rules.specs.Bubbles.{bubbles_of}
use Rattle.strand_rules.specs.Machine.{Machine, durable_persists}
use Rattle.strand_rules.specs.Run.{CanFail}
use Rattle.strand_rules.specs.Visible.{Visible}
use Rattle.strand_rules.specs.declared.turn.BubbleAt.{BubbleAt}
use Rattle.strand_rules.specs.declared.turn.StepFault.{StepFault}
use Rattle.strand_rules.specs.declared.turn.Turn.{Turn}
use Rattle.strand_again.specs.declared.running.Ran.{Ran}
use Rattle.strand_again.specs.Inputs.{Inputs, state_after, turns_after, writes_after}
use Rattle.strand_again.specs.Outcome.{IsOutOfMemory, IsRun, IsStoreOf, IsUnread, RefusedBy, machine_after, module_of}
use Rattle.strand_again.specs.Seen.{visible_after, image_after, Accepts, AreHeld, StandsAfter, StandsAfterSome, StartsWith}
use Rattle.strand_again.specs.Stepping.{steps_made}
use Rattle.strand_again.proofs.Allowed.{seen}
use Rattle.strand_again.proofs.Front.{filled_starts, front_again, image_long}
use Rattle.strand_again.proofs.MakeSteps.{unrefused, unrefused_then}
use Rattle.strand_again.proofs.RunSteps.{some_made, writes_made}
use Rattle.strand_run.specs.declared.running.RunEnd.TheVariants.{ReadRefused, Told}
use Rattle.strand_run.specs.Fault.{ran}
use Rattle.strand_run.specs.Outcome.{MayLeave, RanAndRead, RunsTo, TellsRun, view_of}
use Rattle.strand_run.specs.Seen.{shown, view_after, bubbles_after}

-- a report's view of a machine, by the visible run
pub view_is : (u : Inputs) (r : Ran) → r.machine.machine ≡ machine_after u r.fault → r.turns ≡ turns_after u (steps_made r.fault u.steps) → view_of r ≡ view_after u (steps_made r.fault u.steps) r.held r.fault
view_is u r machine turned =
    ap (λ (m : Machine). shown m.config m.made m.state.now (bubbles_of r.turns) r.held (durable_persists m.state) r.fault) machine
    ∙ ap (λ (ts : List Turn). shown u.config (length made) (state_after u made).now (bubbles_of ts) r.held (durable_persists (state_after u made)) r.fault) turned
    ∙ ap (λ (v : Visible). shown u.config (length made) v (bubbles_after u made) r.held (durable_persists (state_after u made)) r.fault) (seen u made)
  where
    made : List Step
    made = steps_made r.fault u.steps

-- no memory was left behind some reads
pub may_after : (u : Inputs) (count : ℕ) (fault : Option StepFault) (reads : ℕ) (before after : BankSeen) → IsStoreOf u count fault → reads ≤ length u.image.persistent
    → RanAndRead u (steps_made fault u.steps) reads before after → MayLeave u before after
may_after u count fault reads before after store few made = record {
  stands = inr (inr (some_made u count fault before after store made.0));
  accepted = record {
    stores = length u.image.persistent + writes_after u (steps_made fault u.steps);
    reads = reads;
    few_stores = omega (arith, writes_made u fault);
    few_reads = few;
    accepts = made.1;
  };
}

-- nothing was run yet
pub untouched : (u : Inputs) (bank : BankSeen) → MayLeave u bank bank
untouched u bank = record {
  stands = inl refl;
  accepted = record { stores = 0; reads = 0; few_stores = omega arith; few_reads = omega arith; accepts = stores_none bank.accepted ∙ reads_none (stores_accepted 0 bank.accepted) };
}

-- a bank that was filled starts with the image's words
pub starts : (u : Inputs) (b0 b1 : BankSeen) → Fills {T = Unit {0}} b0 b1 u.image.persistent (Ok tt) → StartsWith u.image.persistent b1
starts u b0 b1 fills = filled_starts u.image.persistent b0.told b1.told fills.done

module _ (u : Inputs) (b0 b1 b2 : BankSeen) (fills : Fills {T = Unit {0}} b0 b1 u.image.persistent (Ok tt)) where
  -- what stands by some steps behind the fill
  behind : (steps : List Step) → StandsAfter u steps b1 b2 → StandsAfter u steps b0 b2
  behind steps stands =
      front_again (image_after u steps) u.image.persistent b0.told b1.told b2.told (image_long u steps) fills.done stands

  store_of : (fault : Option StepFault) → IsStoreOf u b1.modules fault → IsStoreOf u b0.modules fault
  store_of fault store = subst (λ (n : ℕ). IsStoreOf u n fault) fills.kept.modules store

  refused_of : (b : BankSeen) (fault : Option StepFault) → Keeps b1 b → RefusedBy store_refused b1 b (module_of fault) → RefusedBy store_refused b0 b (module_of fault)
  refused_of b None kept refused = unrefused_then b0 b1 b fills.kept kept (unrefused b0 b1 fills.accepted fills.quiet) refused
  refused_of b (Some f) kept refused = refuses_after store_refused b0 b1 b f.«module» fills.kept fills.accepted refused

  accepted_of : (writes reads : ℕ) → b2.accepted ≡ reads_accepted reads (stores_accepted writes b1.accepted) → b2.accepted ≡ reads_accepted reads (stores_accepted (length u.image.persistent + writes) b0.accepted)
  accepted_of writes reads counts = counts ∙ ap (reads_accepted reads) (stores_again b0.accepted b1.accepted (stores_accepted writes b1.accepted) (length u.image.persistent) writes fills.counted refl)

  ran_of : (steps : List Step) (reads : ℕ) → StandsAfter u steps b1 b2 → Accepts (writes_after u steps) reads b1 b2 → RanAndRead u steps reads b0 b2
  ran_of steps reads stands counts = (behind steps stands, accepted_of (writes_after u steps) reads counts)

  pub kept_of : Keeps b1 b2 → Keeps b0 b2
  kept_of kept = keeps_trans b0 b1 b2 fills.kept kept

  -- the words were read
  pub run_read : (r : Ran) → Keeps b1 b2 → IsRun u b1 b2 r.machine.machine r.turns r.held r.fault → RunsTo u b0 b2 (Told r)
  run_read r kept run = record {
    fault = ran r.fault None;
    allowed = (store_of r.fault run.store, tt);
    shown = record { between = b2; kept_first = kept_of kept; kept_second = keeps_same b2; first = refused_of b2 r.fault kept run.refused; second = unrefused b2 b2 refl refl };
    kept = kept_of kept;
    leaves = ran_of (steps_made r.fault u.steps) (length u.image.persistent) run.stands run.accepted;
    is = (
      refl,
      record {
        size = ap (λ (m : Machine). m.program.sizes.persistent) run.machine_is;
        view = view_is u r run.machine_is run.turns_are;
        held = record { count = run.words.count; words = held_of b0.told b1.told fills.done run.words.words };
      },
    );
  }
    where
      held_of : (a b : Option (List ℕ)) → b ≡ front_written u.image.persistent a → OnSome b (r.held ≡ image_after u (steps_made r.fault u.steps)) → OnSome a (r.held ≡ image_after u (steps_made r.fault u.steps))
      held_of None b e words = tt
      held_of (Some all) b e words = subst (λ (t : Option (List ℕ)). OnSome t (r.held ≡ image_after u (steps_made r.fault u.steps))) e words

  -- a module refused the read
  pub run_unread : (m : ℕ) → Keeps b1 b2 → IsUnread u b1 b2 m → RunsTo u b0 b2 (ReadRefused m)
  run_unread m kept run = record {
    fault = ran run.fault (Some m);
    allowed = (store_of run.fault run.store, omega (arith, run.second.exists, run.kept_first.modules, fills.kept.modules));
    shown = record { between = run.between; kept_first = keeps_trans b0 b1 run.between fills.kept run.kept_first; kept_second = run.kept_second; first = refused_of run.between run.fault run.kept_first run.first; second = run.second };
    kept = kept_of kept;
    leaves = (run.number, run.exists, run.holder ∙ ap (λ (k : ℕ). run.number % k) fills.kept.modules, ran_of (steps_made run.fault u.steps) run.number run.stands run.accepted);
    is = (run.fault, refl);
  }

  -- no memory was left behind the fill
  pub run_stopped : Keeps b1 b2 → IsOutOfMemory u b1 b2 → Keeps b0 b2 × MayLeave u b0 b2
  run_stopped kept run = (
    kept_of kept,
    record {
      stands = inr (inr (run.stands.0, run.stands.1, behind (take run.stands.0 u.steps) run.stands.2));
      accepted = record {
        stores = length u.image.persistent + run.stores;
        reads = run.reads;
        few_stores = omega (arith, run.few_stores);
        few_reads = run.few_reads;
        accepts = accepted_of run.stores run.reads run.accepted;
      };
    },
  )
