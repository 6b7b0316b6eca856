-- Serves clause step of PlainMachine::step: what a step of the pipeline leaves, with the memory beside it.
use Rattle.std.proofs.Common.{◌≡◌, ℕ, ◌+◌, Bool, true, false, length, refl, sym, ap, subst, ◌∙◌}
use Rattle.std.specs.Prelude.{◌≤◌, Some, None, slice_get, vec_capacity, ◌==◌, if◌then◌else◌, ◌&&◌}
use Rattle.std.specs.declared.option.Option.{Option}
use Rattle.std.proofs.lemmas.Bool.{true≢false}
use Rattle.strand_inputs.specs.Settings.{Settings}
use Rattle.strand_inputs.specs.declared.step.Step.{Step}
use Rattle.strand_inputs.specs.declared.step.Step.TheVariants.{Core, Dispatch, Send, Write}
use Rattle.strand_events.specs.Trace.{event_is, is_persist, is_new_strand, strand_number}
use Rattle.strand_modules.specs.Bank.{BankSeen}
use Rattle.strand_rules.specs.declared.plain_machine.PlainMachine.TheInside.{Inside}
use Rattle.strand_rules.specs.declared.turn.Cause.{Cause}
use Rattle.strand_rules.specs.declared.turn.Cause.TheVariants as causes
use Rattle.strand_rules.specs.declared.turn.Turn.{Turn}
use Rattle.strand_rules.specs.declared.turn.Turn.TheVariants.{Done, Bubble, Fault}
use Rattle.strand_rules.specs.Cycle.{State, turn, item_turn, send_turn, ring_use, buffer_of, buffer_busy, front, eligible, item_after, send_after, write_after, done_after, after_turn, after, IsReached}
use Rattle.strand_rules.specs.KeptPlain.{IsKeptPlainMachine}
use Rattle.strand_rules.specs.Next.{AreKeptWaits}
use Rattle.strand_rules.specs.Visible.{Program, Visible}
use Rattle.strand_rules.specs.Machine.{Machine, StepLeaves, StoresOk, stepped, stored_by}
use Rattle.strand_rules.specs.Pipeline.{state_with, with_memory}
use Rattle.strand_rules.proofs.IsReached.{reached_after}
use Rattle.strand_rules.proofs.WithMemory.{MovesNoCore, stepped_with}

abbrev is_fault : Turn → Bool
is_fault (Fault m) = true
is_fault Done = false
is_fault (Bubble cause) = false

no_fault : (b : Bool) (cause : Cause) (other : Turn) → is_fault other ≡ false → is_fault (if b then Bubble cause else other) ≡ false
no_fault true cause other safe = refl
no_fault false cause other safe = safe

item_safe : (g : Settings) (s : State) (n : ℕ) (o : Option ℕ) → is_fault (item_turn g s n o) ≡ false
item_safe g s n None = refl
item_safe g s n (Some k) =
    let busy : Bool = event_is is_new_strand s.now.trace k && buffer_busy g s n (buffer_of g (strand_number g.mode s.now.trace k + 1)) in
    no_fault (event_is is_persist s.now.trace k && (ring_use g s n k == g.ring)) causes.NoRoom (if busy then Bubble causes.NotEmpty else Done) (no_fault busy causes.NotEmpty Done refl)

send_safe : (g : Settings) (s : State) (o : Option ℕ) → is_fault (send_turn g s o) ≡ false
send_safe g s None = refl
send_safe g s (Some p) = no_fault (length s.flight == g.flight) causes.FlightFull Done refl

-- a step that stores nothing
turned_steps : (old new : Machine) (bank : BankSeen) (step : Step) (t : Turn) → stored_by old.state step ≡ None → is_fault (turn old.config old.program old.state step) ≡ false
    → t ≡ turn old.config old.program old.state step → new ≡ stepped old step → StepLeaves old new bank bank step t
turned_steps old new bank step Done nothing safe is same = (sym is, same, subst (λ o. StoresOk o bank bank) (sym nothing) refl)
turned_steps old new bank step (Bubble cause) nothing safe is same = (sym is, same, refl)
turned_steps old new bank step (Fault m) nothing safe is same = absurd (true≢false (ap is_fault is ∙ safe))

pub dispatch_steps : (old new : Machine) (bank : BankSeen) (n : ℕ) (t : Turn) → t ≡ turn old.config old.program old.state (Dispatch n) → new ≡ stepped old (Dispatch n) → StepLeaves old new bank bank (Dispatch n) t
dispatch_steps old new bank n t is same = turned_steps old new bank (Dispatch n) t refl (item_safe old.config old.state n (front old.config old.state n)) is same

pub send_steps : (old new : Machine) (bank : BankSeen) (n b j : ℕ) (t : Turn) → t ≡ turn old.config old.program old.state (Send n b j) → new ≡ stepped old (Send n b j) → StepLeaves old new bank bank (Send n b j) t
send_steps old new bank n b j t is same = turned_steps old new bank (Send n b j) t refl (send_safe old.config old.state (slice_get (eligible old.config old.state n b) j)) is same

-- what is seen stays
item_stays : (s : State) (n : ℕ) (o : Option ℕ) → (item_after s n o).now ≡ s.now
item_stays s n None = refl
item_stays s n (Some k) = refl

send_stays : (s : State) (o : Option ℕ) → (send_after s o).now ≡ s.now
send_stays s None = refl
send_stays s (Some p) = refl

write_stays : (s : State) (j : ℕ) (o : Option ℕ) → (write_after s j o).now ≡ s.now
write_stays s j None = refl
write_stays s j (Some p) = refl

done_stays : (g : Settings) (p : Program) (s : State) (step : Step) → MovesNoCore step → (done_after g p s step).now ≡ s.now
done_stays g p s (Core n) moves = absurd moves
done_stays g p s (Dispatch n) moves = item_stays s n (front g s n)
done_stays g p s (Send n b j) moves = send_stays s (slice_get (eligible g s n b) j)
done_stays g p s (Write j) moves = write_stays s j (slice_get s.flight j)

turned_stays : (t : Turn) (old new : State) → new.now ≡ old.now → (after_turn t old new).now ≡ old.now
turned_stays Done old new same = same
turned_stays (Bubble cause) old new same = refl
turned_stays (Fault m) old new same = refl

after_stays : (g : Settings) (p : Program) (s : State) (step : Step) → MovesNoCore step → (after g p s step).now ≡ s.now
after_stays g p s step moves = turned_stays (turn g p s step) s (done_after g p s step) (done_stays g p s step moves)

-- the memory and the waits stay, and a run reaches the state after the step
module _ (m : Inside) (new : Machine) (step : Step) (moves : MovesNoCore step) (held : IsKeptPlainMachine m) where
  pub stepped_held : new ≡ stepped m.pipeline step → IsKeptPlainMachine (record m { pipeline = new })
  stepped_held same = record {
    extents = held.extents ∙ sym (ap (λ (m : Machine). m.program.sizes) same);
    reached = subst (λ (m : Machine). IsReached m.config m.program m.state) (sym (ap (with_memory m.memory) same ∙ stepped_with m.memory m.pipeline step moves))
        (reached_after m.pipeline.config m.pipeline.program (state_with m.memory m.pipeline.state) step held.reached);
    waits = subst (λ (new : Machine). AreKeptWaits new.config.conflict new.config.mode new.state.now.trace m.waits.items) (sym same)
        (subst (λ (v : Visible). AreKeptWaits m.pipeline.config.conflict m.pipeline.config.mode v.trace m.waits.items) (sym (after_stays m.pipeline.config m.pipeline.program m.pipeline.state step moves)) held.waits);
    waits_room = subst (λ (new : Machine). new.steps ≤ vec_capacity m.waits) (sym same) held.waits_room;
  }

  pub steps_held : (bank bank' : BankSeen) (t : Turn) → StepLeaves m.pipeline new bank bank' step t → IsKeptPlainMachine (record m { pipeline = new })
  steps_held bank bank' (Fault k) (turned, same, stores) = subst (λ (p : Machine). IsKeptPlainMachine (record m { pipeline = p })) (sym same) held
  steps_held bank bank' (Bubble cause) (turned, same, bank_same) = stepped_held same
  steps_held bank bank' Done (turned, same, stores) = stepped_held same
