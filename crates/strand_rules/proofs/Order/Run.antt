-- Serves clauses closed and joined of durable_sets_are_allowed: every run keeps the order of the parts.
use Rattle.std.proofs.Common.{◌≡◌, List, [], ◌∷◌, refl}
use Rattle.std.specs.Prelude.{slice_get, slice_index}
use Rattle.strand_inputs.specs.Settings.{Settings}
use Rattle.strand_inputs.specs.declared.step.Step.{Step}
use Rattle.strand_inputs.specs.declared.step.Step.TheVariants.{Core, Dispatch, Send, Write}
use Rattle.strand_exec.specs.Core as cores
use Rattle.strand_exec.specs.Memory.{Memory}
use Rattle.strand_events.specs.Order.{set_of, IsDownwardClosed, HoldsJoined}
use Rattle.strand_rules.specs.Visible.{Program}
use Rattle.strand_rules.specs.declared.turn.Turn.{Turn}
use Rattle.strand_rules.specs.declared.turn.Turn.TheVariants.{Done, Bubble, Fault}
use Rattle.strand_rules.specs.Cycle.{State, turn, done_after, after_turn, after, after_steps, start_at, durable_set, front, eligible}
use Rattle.strand_rules.proofs.Order.Sets.Invariant.{closed}
use Rattle.strand_rules.proofs.Order.Invariant.{IsGood, start_good}
use Rattle.strand_rules.proofs.Order.Core.{core_good}
use Rattle.strand_rules.proofs.Order.Item.{item_good}
use Rattle.strand_rules.proofs.Order.Send.{send_good}
use Rattle.strand_rules.proofs.Order.Write.{write_good}

pub done_good : (g : Settings) (p : Program) (s : State) (step : Step) → IsGood g s → turn g p s step ≡ Done → IsGood g (done_after g p s step)
done_good g p s (Core n) good done = core_good g p s n good done
done_good g p s (Dispatch n) good done = item_good g s n good (front g s n) refl
done_good g p s (Send n b j) good done = send_good g s n b j good (slice_get (eligible g s n b) j) refl
done_good g p s (Write j) good done = write_good g s j good (slice_get s.flight j) refl done

turn_good : (g : Settings) (s new : State) (it : Turn) → IsGood g s → (it ≡ Done → IsGood g new) → IsGood g (after_turn it s new)
turn_good g s new Done good done = done refl
turn_good g s new (Bubble cause) good done = good
turn_good g s new (Fault m) good done = good

pub step_good : (g : Settings) (p : Program) (s : State) (step : Step) → IsGood g s → IsGood g (after g p s step)
step_good g p s step good = turn_good g s (done_after g p s step) (turn g p s step) good (done_good g p s step good)

pub run_good : (g : Settings) (p : Program) (s : State) (steps : List Step) → IsGood g s → IsGood g (after_steps g p s steps)
run_good g p s [] good = good
run_good g p s (step ∷ steps) good = run_good g p (after g p s step) steps (step_good g p s step good)

pub good_closed : (g : Settings) (s : State) → IsGood g s → IsDownwardClosed g.mode s.now.trace (durable_set s)
good_closed g s good = closed g.conflict g.mode s.now.trace (slice_index s.dispatched) (set_of s.buffered) s.flight (set_of s.durable) good.ordered

pub run_closed : (g : Settings) (p : Program) (cores : List cores.Core) (memory : Memory) (steps : List Step)
    → IsDownwardClosed g.mode (after_steps g p (start_at cores memory) steps).now.trace (durable_set (after_steps g p (start_at cores memory) steps))
run_closed g p cores memory steps = good_closed g (after_steps g p (start_at cores memory) steps) (run_good g p (start_at cores memory) steps (start_good g cores memory))

pub run_joined : (g : Settings) (p : Program) (cores : List cores.Core) (memory : Memory) (steps : List Step)
    → HoldsJoined (after_steps g p (start_at cores memory) steps).now.trace (durable_set (after_steps g p (start_at cores memory) steps))
run_joined g p cores memory steps = (run_good g p (start_at cores memory) steps (start_good g cores memory)).ordered.drained
