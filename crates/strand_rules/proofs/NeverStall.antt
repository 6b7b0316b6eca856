-- Serves tagged_accesses_never_stall: under tag no turn is a bubble for a conflict.
use Rattle.std.proofs.Common.{◌≡◌, ℕ, ◌+◌, Bool, true, false, ◌&&◌, length, refl, sym, ap, ◌∙◌}
use Rattle.std.specs.Prelude.{if◌then◌else◌, ◌==◌, Some, None, slice_get}
use Rattle.std.specs.declared.option.Option.{Option}
use Rattle.std.proofs.lemmas.Bool.{true≢false}
use Rattle.strand_inputs.specs.declared.step.Step.{Step}
use Rattle.strand_inputs.specs.declared.step.Step.TheVariants.{Core, Dispatch, Send, Write}
use Rattle.strand_exec.specs.declared.planned.Plan.{Plan}
use Rattle.strand_events.specs.declared.event.Event.{Event}
use Rattle.strand_events.specs.Trace.{is_persist, is_new_strand, is_join, event_is, strand_number}
use Rattle.strand_events.specs.Order.{set_of}
use Rattle.strand_inputs.specs.Settings.{Settings}
use Rattle.strand_inputs.specs.declared.conflict.Conflict.TheVariants.{Tag}
use Rattle.strand_rules.specs.declared.turn.Cause.TheVariants as causes
use Rattle.strand_rules.specs.declared.turn.Turn.{Turn}
use Rattle.strand_rules.specs.declared.turn.Turn.TheVariants.{Done, Bubble}
use Rattle.strand_rules.specs.Visible.{Program, event_of, next_plan}
use Rattle.strand_rules.specs.Cycle.{State, is_item, queued, join_waits, access_waits, event_turn, made_turn, core_turn, front, ring_use, buffer_busy, buffer_of, item_turn, eligible, send_turn, older_waits, write_turn, turn}

abbrev is_conflict : Turn → Bool
is_conflict (Bubble causes.Conflict) = true
is_conflict _ = false

event_free : (g : Settings) (s : State) (n : ℕ) (e : Event) → g.conflict ≡ Tag → is_conflict (event_turn g s n e) ≡ false
event_free g s n e tag = go (is_join e && join_waits g s n) (access_waits g.conflict g.mode s.now.trace (set_of s.durable) e) (is_item g.mode e && (queued g s n == g.queue)) (ap (λ c. access_waits c g.mode s.now.trace (set_of s.durable) e) tag)
  where
    go : (one must two : Bool) → must ≡ false → is_conflict (if one then Bubble causes.Join else if must then Bubble causes.Conflict else if two then Bubble causes.Queue else Done) ≡ false
    go true must two none = refl
    go false true two none = absurd (true≢false none)
    go false false true none = refl
    go false false false none = refl

core_free : (g : Settings) (s : State) (n : ℕ) (plan : Option Plan) → g.conflict ≡ Tag → is_conflict (core_turn g s n plan) ≡ false
core_free g s n None tag = refl
core_free g s n (Some plan) tag = go (event_of n s.now.memory plan)
  where
    go : (o : Option Event) → is_conflict (made_turn g s n o) ≡ false
    go None = refl
    go (Some e) = event_free g s n e tag

one_of_two : (one two : Bool) (a b : Turn) → is_conflict a ≡ false → is_conflict b ≡ false → is_conflict (if one then a else if two then b else Done) ≡ false
one_of_two true two a b off off' = off
one_of_two false true a b off off' = off'
one_of_two false false a b off off' = refl

item_free : (g : Settings) (s : State) (n : ℕ) (o : Option ℕ) → is_conflict (item_turn g s n o) ≡ false
item_free g s n None = refl
item_free g s n (Some k) =
    one_of_two (event_is is_persist s.now.trace k && (ring_use g s n k == g.ring)) (event_is is_new_strand s.now.trace k && buffer_busy g s n (buffer_of g (strand_number g.mode s.now.trace k + 1)))
    (Bubble causes.NoRoom) (Bubble causes.NotEmpty) refl refl

send_free : (g : Settings) (s : State) (o : Option ℕ) → is_conflict (send_turn g s o) ≡ false
send_free g s None = refl
send_free g s (Some p) = one_of_two (length s.flight == g.flight) false (Bubble causes.FlightFull) Done refl refl

write_free : (s : State) (j : ℕ) (o : Option ℕ) → is_conflict (write_turn s j o) ≡ false
write_free s j None = refl
write_free s j (Some p) = one_of_two (older_waits s j p) false (Bubble causes.OlderWaits) Done refl refl

turn_free : (g : Settings) (p : Program) (s : State) (step : Step) → g.conflict ≡ Tag → is_conflict (turn g p s step) ≡ false
turn_free g p s (Core n) tag = core_free g s n (next_plan p s.now n) tag
turn_free g p s (Dispatch n) tag = item_free g s n (front g s n)
turn_free g p s (Send n b j) tag = send_free g s (slice_get (eligible g s n b) j)
turn_free g p s (Write j) tag = write_free s j (slice_get s.flight j)

pub no_conflict : (g : Settings) (p : Program) (s : State) (step : Step) → g.conflict ≡ Tag → turn g p s step ≡ Bubble causes.Conflict → ⊥
no_conflict g p s step tag h = true≢false (sym (ap is_conflict h) ∙ turn_free g p s step tag)
