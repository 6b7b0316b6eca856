-- Serves clause placed of Pipeline::trace: the persists of every run lie in the persistent words.
use Rattle.std.proofs.Common.{ℕ, ◌≤◌, List, [], ◌∷◌, sym, subst}
use Rattle.std.specs.Prelude.{Some, None, slice_get}
use Rattle.std.specs.declared.option.Option.{Option}
use Rattle.strand_base.specs.declared.limits.TheConstants.{MOST_MEMORY}
use Rattle.strand_inputs.specs.Settings.{Settings}
use Rattle.strand_inputs.specs.declared.step.Step.{Step}
use Rattle.strand_inputs.specs.declared.step.Step.TheVariants.{Core, Dispatch, Send, Write}
use Rattle.strand_exec.specs.Core as cores
use Rattle.strand_exec.specs.Plan.{plan_of}
use Rattle.strand_exec.specs.declared.life.Life.{Life}
use Rattle.strand_exec.specs.declared.life.Life.TheVariants.{Running, Halted, Trapped}
use Rattle.strand_exec.proofs.StoresData.{plan_data}
use Rattle.strand_events.specs.declared.event.Event.{Event}
use Rattle.strand_events.specs.Places.{LieIn}
use Rattle.strand_rules.specs.Visible.{Program, Visible, with_event, plan_by, plan_in}
use Rattle.strand_rules.specs.declared.turn.Turn.{Turn}
use Rattle.strand_rules.specs.declared.turn.Turn.TheVariants.{Done, Bubble, Fault}
use Rattle.strand_rules.specs.Cycle.{State, turn, done_after, after_turn, after, after_steps, front, eligible, event_in, item_after, send_after, write_after}
use Rattle.strand_rules.proofs.Places.Event.{event_placed}
use Rattle.strand_rules.proofs.Retire.Trace.{retired_trace}

abbrev pub ArePlaced : Program → List Event → Type 0
ArePlaced p t = LieIn t p.sizes.persistent

module _ (p : Program) (small : p.sizes.volatile ≤ MOST_MEMORY) where
  by_placed : (v : Visible) (n : ℕ) (core : cores.Core) (life : Life) → ArePlaced p v.trace → ArePlaced p (with_event v.trace (event_in n v.memory (plan_by p core life)))
  by_placed v n core Running all = event_placed p.sizes n v.memory (plan_of core p.code p.sizes) v.trace small (plan_data core p.code p.sizes) all
  by_placed v n core Halted all = all
  by_placed v n core (Trapped trap) all = all

  in_placed : (v : Visible) (n : ℕ) (core : Option cores.Core) → ArePlaced p v.trace → ArePlaced p (with_event v.trace (event_in n v.memory (plan_in p core)))
  in_placed v n None all = all
  in_placed v n (Some core) all = by_placed v n core core.life all

  module _ (g : Settings) where
    done_placed : (s : State) (step : Step) → ArePlaced p s.now.trace → ArePlaced p (done_after g p s step).now.trace
    done_placed s (Core n) all = subst (λ t. ArePlaced p t) (sym (retired_trace p s.now n)) (in_placed s.now n (slice_get s.now.cores n) all)
    done_placed s (Dispatch n) all = go (front g s n)
      where
        go : (o : Option ℕ) → ArePlaced p (item_after s n o).now.trace
        go None = all
        go (Some k) = all
    done_placed s (Send n b j) all = go (slice_get (eligible g s n b) j)
      where
        go : (o : Option ℕ) → ArePlaced p (send_after s o).now.trace
        go None = all
        go (Some k) = all
    done_placed s (Write j) all = go (slice_get s.flight j)
      where
        go : (o : Option ℕ) → ArePlaced p (write_after s j o).now.trace
        go None = all
        go (Some k) = all

    turn_placed : (t : Turn) (old new : State) → ArePlaced p old.now.trace → ArePlaced p new.now.trace → ArePlaced p (after_turn t old new).now.trace
    turn_placed Done old new h h' = h'
    turn_placed (Bubble cause) old new h h' = h
    turn_placed (Fault m) old new h h' = h

    pub run_placed : (s : State) (steps : List Step) → ArePlaced p s.now.trace → ArePlaced p (after_steps g p s steps).now.trace
    run_placed s [] all = all
    run_placed s (step ∷ steps) all = run_placed (after g p s step) steps (turn_placed (turn g p s step) s (done_after g p s step) all (done_placed s step all))
