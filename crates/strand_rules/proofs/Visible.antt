-- Serves visible_runs_are_kept: what programs see is the visible run over the cores that retired.
use Rattle.std.proofs.Common.{◌≡◌, ℕ, List, [], ◌∷◌, ◌++◌, refl, sym, ap, ◌∙◌}
use Rattle.std.specs.Prelude.{slice_get, Some, None}
use Rattle.std.specs.declared.option.Option.{Option}
use Rattle.strand_inputs.specs.Settings.{Settings}
use Rattle.strand_inputs.specs.declared.step.Step.{Step}
use Rattle.strand_inputs.specs.declared.step.Step.TheVariants.{Core, Dispatch, Send, Write}
use Rattle.strand_rules.specs.declared.turn.Turn.{Turn}
use Rattle.strand_rules.specs.declared.turn.Turn.TheVariants.{Done, Bubble, Fault}
use Rattle.strand_rules.specs.Visible.{Program, Visible, retire, visible}
use Rattle.strand_rules.specs.Cycle.{State, turn, next_event, core_after, item_after, send_after, write_after, front, eligible, after_turn, after, after_steps}

-- one core more retires after the others
visible_more : (p : Program) (v : Visible) (ns : List ℕ) (n : ℕ) → visible p v (ns ++ n ∷ []) ≡ retire p (visible p v ns) n
visible_more p v [] n = refl
visible_more p v (m ∷ ns) n = visible_more p (retire p v m) ns n

abbrev Seen : Program → Visible → State → Type 0
Seen p v s = s.now ≡ visible p v s.retired

turn_seen : (p : Program) (v : Visible) (turn : Turn) (old new : State) → Seen p v old → Seen p v new → Seen p v (after_turn turn old new)
turn_seen p v Done old new h h' = h'
turn_seen p v (Bubble cause) old new h h' = h
turn_seen p v (Fault m) old new h h' = h

item_seen : (p : Program) (v : Visible) (s : State) (n : ℕ) (item : Option ℕ) → Seen p v s → Seen p v (item_after s n item)
item_seen p v s n None h = h
item_seen p v s n (Some k) h = h

send_seen : (p : Program) (v : Visible) (s : State) (entry : Option ℕ) → Seen p v s → Seen p v (send_after s entry)
send_seen p v s None h = h
send_seen p v s (Some k) h = h

write_seen : (p : Program) (v : Visible) (s : State) (j : ℕ) (entry : Option ℕ) → Seen p v s → Seen p v (write_after s j entry)
write_seen p v s j None h = h
write_seen p v s j (Some k) h = h

step_seen : (g : Settings) (p : Program) (v : Visible) (s : State) (step : Step) → Seen p v s → Seen p v (after g p s step)
step_seen g p v s (Core n) h = turn_seen p v (turn g p s (Core n)) s (core_after p s n (next_event p s.now n)) h (ap (λ w. retire p w n) h ∙ sym (visible_more p v s.retired n))
step_seen g p v s (Dispatch n) h = turn_seen p v (turn g p s (Dispatch n)) s (item_after s n (front g s n)) h (item_seen p v s n (front g s n) h)
step_seen g p v s (Send n b j) h = turn_seen p v (turn g p s (Send n b j)) s (send_after s (slice_get (eligible g s n b) j)) h (send_seen p v s (slice_get (eligible g s n b) j) h)
step_seen g p v s (Write j) h = turn_seen p v (turn g p s (Write j)) s (write_after s j (slice_get s.flight j)) h (write_seen p v s j (slice_get s.flight j) h)

pub run_seen : (g : Settings) (p : Program) (v : Visible) (s : State) (steps : List Step) → s.now ≡ visible p v s.retired → (after_steps g p s steps).now ≡ visible p v (after_steps g p s steps).retired
run_seen g p v s [] h = h
run_seen g p v s (step ∷ steps) h = run_seen g p v (after g p s step) steps (step_seen g p v s step h)
