-- Serves clause step of PlainMachine::step and Machine::step: what of a machine doesn't look at its memory.
use Rattle.std.proofs.Common.{◌≡◌, ℕ, ◌+◌, refl, sym, ap, subst, ◌∙◌}
use Rattle.std.specs.Prelude.{Some, None, slice_get}
use Rattle.std.specs.declared.option.Option.{Option}
use Rattle.strand_inputs.specs.Settings.{Settings}
use Rattle.strand_inputs.specs.declared.step.Step.{Step}
use Rattle.strand_inputs.specs.declared.step.Step.TheVariants.{Core, Dispatch, Send, Write}
use Rattle.strand_exec.specs.Memory.{Memory}
use Rattle.strand_exec.specs.declared.effect.Effect.{Effect}
use Rattle.strand_events.specs.declared.event.Event.{Event}
use Rattle.strand_modules.specs.Bank.{BankSeen}
use Rattle.strand_rules.specs.Visible.{Program}
use Rattle.strand_rules.specs.declared.turn.Turn.{Turn}
use Rattle.strand_rules.specs.declared.turn.Turn.TheVariants.{Done, Bubble, Fault}
use Rattle.strand_rules.specs.Cycle.{State, made_turn, item_turn, send_turn, write_turn, turn, front, eligible, item_after, send_after, write_after, done_after, after_turn, after}
use Rattle.strand_rules.specs.Machine.{Machine, NextEffect, FrontIs, StepLeaves, StoresOk, StoresErr, stored_for, stored_by, stepped}
use Rattle.strand_rules.specs.Kept.{IsKeptMachine}
use Rattle.strand_rules.specs.Pipeline.{state_with, with_memory}

pub kept_with : (memory : Memory) (m : Machine) → IsKeptMachine m → IsKeptMachine (with_memory memory m)
kept_with memory m kept = record {
  cores = kept.cores;
  few_volatile = kept.few_volatile;
  placed = kept.placed;
  made_within = kept.made_within;
  few_steps = kept.few_steps;
  few_events = kept.few_events;
  few_retired = kept.few_retired;
  dispatched = kept.dispatched;
  buffered = kept.buffered;
  durable = kept.durable;
  few_sent = kept.few_sent;
  waiting = kept.waiting;
  sent = kept.sent;
}

pub runs_without : (memory : Memory) (m : Machine) (n : ℕ) (effect : Effect) → NextEffect (with_memory memory m) n effect → NextEffect m n effect
runs_without memory m n effect runs = record {
  core = runs.core;
  there = runs.there;
  running = runs.running;
  effect_is = runs.effect_is;
  register = runs.register;
  aligned = runs.aligned;
}

pub front_without : (memory : Memory) (g : Settings) (s : State) (n : ℕ) (o : Option ℕ) → FrontIs g (state_with memory s) n o → FrontIs g s n o
front_without memory g s n None is = is
front_without memory g s n (Some k) is = is

-- the turns
pub made_turn_with : (memory : Memory) (g : Settings) (s : State) (n : ℕ) (o : Option Event) → made_turn g (state_with memory s) n o ≡ made_turn g s n o
made_turn_with memory g s n None = refl
made_turn_with memory g s n (Some e) = refl

item_turn_with : (memory : Memory) (g : Settings) (s : State) (n : ℕ) (o : Option ℕ) → item_turn g (state_with memory s) n o ≡ item_turn g s n o
item_turn_with memory g s n None = refl
item_turn_with memory g s n (Some k) = refl

send_turn_with : (memory : Memory) (g : Settings) (s : State) (o : Option ℕ) → send_turn g (state_with memory s) o ≡ send_turn g s o
send_turn_with memory g s None = refl
send_turn_with memory g s (Some p) = refl

write_turn_with : (memory : Memory) (s : State) (j : ℕ) (o : Option ℕ) → write_turn (state_with memory s) j o ≡ write_turn s j o
write_turn_with memory s j None = refl
write_turn_with memory s j (Some p) = refl

-- the states after them
pub item_after_with : (memory : Memory) (s : State) (n : ℕ) (o : Option ℕ) → item_after (state_with memory s) n o ≡ state_with memory (item_after s n o)
item_after_with memory s n None = refl
item_after_with memory s n (Some k) = refl

send_after_with : (memory : Memory) (s : State) (o : Option ℕ) → send_after (state_with memory s) o ≡ state_with memory (send_after s o)
send_after_with memory s None = refl
send_after_with memory s (Some p) = refl

write_after_with : (memory : Memory) (s : State) (j : ℕ) (o : Option ℕ) → write_after (state_with memory s) j o ≡ state_with memory (write_after s j o)
write_after_with memory s j None = refl
write_after_with memory s j (Some p) = refl

stored_with : (memory : Memory) (s : State) (o : Option ℕ) → stored_for (state_with memory s) o ≡ stored_for s o
stored_with memory s None = refl
stored_with memory s (Some k) = refl

-- a step of no core
abbrev pub MovesNoCore : Step → Type 0
MovesNoCore (Core n) = ⊥
MovesNoCore (Dispatch n) = Unit {0}
MovesNoCore (Send n b j) = Unit {0}
MovesNoCore (Write j) = Unit {0}

module _ (memory : Memory) where
  turn_with : (g : Settings) (p : Program) (s : State) (step : Step) → MovesNoCore step → turn g p (state_with memory s) step ≡ turn g p s step
  turn_with g p s (Core n) moves = absurd moves
  turn_with g p s (Dispatch n) moves = item_turn_with memory g s n (front g s n)
  turn_with g p s (Send n b j) moves = send_turn_with memory g s (slice_get (eligible g s n b) j)
  turn_with g p s (Write j) moves = write_turn_with memory s j (slice_get s.flight j)

  done_with : (g : Settings) (p : Program) (s : State) (step : Step) → MovesNoCore step → done_after g p (state_with memory s) step ≡ state_with memory (done_after g p s step)
  done_with g p s (Core n) moves = absurd moves
  done_with g p s (Dispatch n) moves = item_after_with memory s n (front g s n)
  done_with g p s (Send n b j) moves = send_after_with memory s (slice_get (eligible g s n b) j)
  done_with g p s (Write j) moves = write_after_with memory s j (slice_get s.flight j)

  turned_with : (t : Turn) (old new : State) → after_turn t (state_with memory old) (state_with memory new) ≡ state_with memory (after_turn t old new)
  turned_with Done old new = refl
  turned_with (Bubble cause) old new = refl
  turned_with (Fault m) old new = refl

  after_with : (g : Settings) (p : Program) (s : State) (step : Step) → MovesNoCore step → after g p (state_with memory s) step ≡ state_with memory (after g p s step)
  after_with g p s step moves =
      ap (λ t. after_turn t (state_with memory s) (done_after g p (state_with memory s) step)) (turn_with g p s step moves)
      ∙ ap (after_turn (turn g p s step) (state_with memory s)) (done_with g p s step moves)
      ∙ turned_with (turn g p s step) s (done_after g p s step)

  pub stepped_with : (m : Machine) (step : Step) → MovesNoCore step → with_memory memory (stepped m step) ≡ stepped (with_memory memory m) step
  stepped_with m step moves =
      ap (λ s. record m { state = s; made = m.made + 1 }) (sym (after_with m.config m.program m.state step moves))

  stored_by_with : (s : State) (step : Step) → stored_by (state_with memory s) step ≡ stored_by s step
  stored_by_with s (Core n) = refl
  stored_by_with s (Dispatch n) = refl
  stored_by_with s (Send n b j) = refl
  stored_by_with s (Write j) = stored_with memory s (slice_get s.flight j)

  steps_beside : (old new : Machine) (bank bank' : BankSeen) (step : Step) (t : Turn) → MovesNoCore step → StepLeaves old new bank bank' step t
      → StepLeaves (with_memory memory old) (with_memory memory new) bank bank' step t
  steps_beside old new bank bank' step (Fault m) moves (turned, same, stores) = (
    turn_with old.config old.program old.state step moves ∙ turned,
    ap (with_memory memory) same,
    subst (λ o. StoresErr o bank bank' m) (sym (stored_by_with old.state step)) stores,
  )
  steps_beside old new bank bank' step (Bubble cause) moves (turned, same, bank_same) = (
    turn_with old.config old.program old.state step moves ∙ turned,
    ap (with_memory memory) same ∙ stepped_with old step moves,
    bank_same,
  )
  steps_beside old new bank bank' step Done moves (turned, same, stores) = (
    turn_with old.config old.program old.state step moves ∙ turned,
    ap (with_memory memory) same ∙ stepped_with old step moves,
    subst (λ o. StoresOk o bank bank') (sym (stored_by_with old.state step)) stores,
  )

  -- a step of no core does with a memory what it does without
  pub steps_with : (old new whole : Machine) (bank bank' : BankSeen) (step : Step) (t : Turn) → MovesNoCore step → with_memory memory old ≡ whole → StepLeaves old new bank bank' step t
      → StepLeaves whole (with_memory memory new) bank bank' step t
  steps_with old new whole bank bank' step t moves is steps =
      subst (λ (m : Machine). StepLeaves m (with_memory memory new) bank bank' step t) is (steps_beside old new bank bank' step t moves steps)
