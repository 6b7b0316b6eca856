-- Serves Pipeline::{retire, dispatch, write} and PlainMachine::retire: what is known of a machine holds of its fields.
use Rattle.std.proofs.Common.{◌≡◌, ℕ, ◌^◌, ◌<◌, true, length, sym, subst, ap, ◌∙◌, arith}
use Rattle.std.specs.Prelude.{Some, slice_get}
use Rattle.std.specs.declared.option.Option.{Option}
use Rattle.strand_exec.specs.Memory.{Memory}
use Rattle.strand_exec.specs.declared.effect.Effect.{Effect}
use Rattle.strand_exec.specs.declared.planned.Plan.{Plan}
use Rattle.strand_events.specs.declared.event.Event.{Event}
use Rattle.strand_events.specs.Trace.{event_is, is_persist}
use Rattle.strand_rules.specs.Cycle.{State, core_after, IsReached}
use Rattle.strand_rules.specs.Kept.{IsKeptMachine}
use Rattle.strand_rules.specs.Machine.{Machine, FrontIs, NextEffect}
use Rattle.strand_rules.specs.Pipeline.{IsReachedWithSome, state_with, with_memory}
use Rattle.strand_rules.specs.Visible.{event_of}
use Rattle.strand_rules.proofs.WithMemory.{runs_without}

-- the machine m of the fields is the value v
module _ (m v : Machine) (is : m ≡ v) where
  pub room_seen : v.made < v.steps → m.made < m.steps
  room_seen room = omega (arith, room, ap (λ (m : Machine). m.made) is, ap (λ (m : Machine). m.steps) is)

  pub runs_seen : (n : ℕ) (effect : Effect) → NextEffect v n effect → NextEffect m n effect
  runs_seen n effect = subst (λ (m : Machine). NextEffect m n effect) (sym is)

  pub front_seen : (n : ℕ) (persist : Option ℕ) → FrontIs v.config v.state n persist → FrontIs m.config m.state n persist
  front_seen n persist = subst (λ (m : Machine). FrontIs m.config m.state n persist) (sym is)

  pub request_seen : (j p : ℕ) → slice_get v.state.flight j ≡ Some p → slice_get m.state.flight j ≡ Some p
  request_seen j p = subst (λ (m : Machine). slice_get m.state.flight j ≡ Some p) (sym is)

  pub persist_seen : (p : ℕ) → event_is is_persist v.state.now.trace p ≡ true → event_is is_persist m.state.now.trace p ≡ true
  persist_seen p = subst (λ (m : Machine). event_is is_persist m.state.now.trace p ≡ true) (sym is)

  -- a run reaches the state after a step
  pub reached_seen : (after : Machine → State) → IsReachedWithSome v.config v.program (after v) → IsReachedWithSome m.config m.program (after m)
  reached_seen after = subst (λ (m : Machine). IsReachedWithSome m.config m.program (after m)) (sym is)

-- the pipeline p with the memory is the value v
module _ (memory : Memory) (p v : Machine) (is : with_memory memory p ≡ v) where
  pub runs_within : (n : ℕ) (effect : Effect) → NextEffect v n effect → NextEffect p n effect
  runs_within n effect runs = runs_without memory p n effect (runs_seen (with_memory memory p) v is n effect runs)

  pub event_within : (n : ℕ) (plan : Plan) (event : Option Event) → event ≡ event_of n v.state.now.memory plan → event ≡ event_of n memory plan
  event_within n plan event made = made ∙ ap (λ (m : Machine). event_of n m.state.now.memory plan) (sym is)

  pub core_reached_within : (n : ℕ) (event : Option Event) → IsReached v.config v.program (core_after v.program v.state n event)
      → IsReached p.config p.program (core_after p.program (state_with memory p.state) n event)
  core_reached_within n event = subst (λ (m : Machine). IsReached m.config m.program (core_after m.program m.state n event)) (sym is)

-- of a machine that is kept: it has fewer than 2 ^ 32 events, and room for the event of one more step
module _ (m : Machine) (kept : IsKeptMachine m) where
  pub few_events : length m.state.now.trace < 2 ^ 32
  few_events = omega (arith, kept.few_events, kept.made_within, kept.few_steps)

  pub event_room : m.made < m.steps → length m.state.now.trace < m.steps
  event_room room = omega (arith, room, kept.few_events)
