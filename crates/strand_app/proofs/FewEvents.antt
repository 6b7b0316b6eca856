-- Serves refutation_on_bank: a run has at most one event for each of its steps.
use Rattle.std.proofs.Common.{ℕ, ◌+◌, ◌≤◌, List, [], ◌∷◌, length, length-append, Option, Some, None, refl, ap, arith}
use Rattle.std.specs.Prelude.{slice_get}
use Rattle.strand_inputs.specs.Settings.{Settings}
use Rattle.strand_inputs.specs.declared.step.Step.{Step}
use Rattle.strand_inputs.specs.declared.step.Step.TheVariants.{Core, Dispatch, Send, Write}
use Rattle.strand_events.specs.declared.event.Event.{Event}
use Rattle.strand_rules.specs.Cycle.{State, turn, done_after, after_turn, after, after_steps, item_after, send_after, write_after, front, eligible, next_event}
use Rattle.strand_rules.specs.Machine.{program_of, start_of}
use Rattle.strand_rules.specs.Visible.{Program, Visible, with_event}
use Rattle.strand_rules.specs.declared.turn.Turn.{Turn}
use Rattle.strand_rules.specs.declared.turn.Turn.TheVariants.{Done, Bubble, Fault}
use Rattle.strand_rules.proofs.Retire.Trace.{retired_trace}
use Rattle.strand_rules.proofs.Visible.{run_seen}
use Rattle.strand_again.specs.Inputs.{Inputs}
use Rattle.strand_again.specs.Seen.{visible_after}

-- at most one event more
abbrev GrowsByOne : State → State → Type 0
GrowsByOne old new = length new.now.trace ≤ length old.now.trace + 1

one_more : (t : List Event) (o : Option Event) → length (with_event t o) ≤ length t + 1
one_more t None = omega arith
one_more t (Some e) = omega (arith, length-append t (e ∷ []))

turn_grows : (turn : Turn) (old new : State) → GrowsByOne old new → GrowsByOne old (after_turn turn old new)
turn_grows Done old new h = h
turn_grows (Bubble cause) old new h = omega arith
turn_grows (Fault m) old new h = omega arith

item_grows : (s : State) (n : ℕ) (item : Option ℕ) → GrowsByOne s (item_after s n item)
item_grows s n None = omega arith
item_grows s n (Some k) = omega arith

send_grows : (s : State) (entry : Option ℕ) → GrowsByOne s (send_after s entry)
send_grows s None = omega arith
send_grows s (Some k) = omega arith

write_grows : (s : State) (j : ℕ) (entry : Option ℕ) → GrowsByOne s (write_after s j entry)
write_grows s j None = omega arith
write_grows s j (Some k) = omega arith

done_grows : (g : Settings) (p : Program) (s : State) (step : Step) → GrowsByOne s (done_after g p s step)
done_grows g p s (Core n) = omega (arith, ap (λ (t : List Event). length t) (retired_trace p s.now n), one_more s.now.trace (next_event p s.now n))
done_grows g p s (Dispatch n) = item_grows s n (front g s n)
done_grows g p s (Send n b j) = send_grows s (slice_get (eligible g s n b) j)
done_grows g p s (Write j) = write_grows s j (slice_get s.flight j)

steps_grow : (g : Settings) (p : Program) (s : State) (steps : List Step) → length (after_steps g p s steps).now.trace ≤ length s.now.trace + length steps
steps_grow g p s [] = omega arith
steps_grow g p s (step ∷ steps) = omega (arith, turn_grows (turn g p s step) s (done_after g p s step) (done_grows g p s step), steps_grow g p (after g p s step) steps)

pub few_events : (u : Inputs) (steps : List Step) → length (visible_after u steps).trace ≤ length steps
few_events u steps =
    let s = start_of u.image in
    let same = run_seen u.config (program_of u.image) s.now s steps refl in
    omega (arith, ap (λ (v : Visible). length v.trace) same, steps_grow u.config (program_of u.image) s steps)
