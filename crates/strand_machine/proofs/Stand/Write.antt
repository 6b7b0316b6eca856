-- Serves clauses step and parts of Machine::step at a write: its turn, and the parts stand for the state after it.
use Rattle.std.proofs.Common.{◌≡◌, ℕ, ◌<◌, Bool, true, length, sym, ap, subst, ◌∙◌}
use Rattle.std.specs.Prelude.{remove, slice_get, Some, None, if◌then◌else◌}
use Rattle.std.proofs.lemmas.Nat.{mod_below}
use Rattle.strand_exec.specs.Core.{Extents}
use Rattle.strand_inputs.specs.Settings.{Settings}
use Rattle.strand_inputs.specs.declared.step.Step.TheVariants.{Write}
use Rattle.strand_events.specs.Trace.{is_persist, core_at, event_is, strand_number}
use Rattle.strand_rules.specs.declared.turn.Cause.TheVariants as causes
use Rattle.strand_rules.specs.declared.turn.Turn.TheVariants.{Done, Bubble}
use Rattle.strand_rules.specs.Visible.{Program}
use Rattle.strand_rules.specs.Cycle.{State, turn, write_after}
use Rattle.strand_rules.specs.Machine.{durable_persists}
use Rattle.strand_control.specs.declared.request.Request.{Request}
use Rattle.strand_control.specs.Flight.{Flight, older_waits}
use Rattle.strand_machine.specs.Changed.{with_written}
use Rattle.strand_machine.specs.Stand.{PartsSeen, Stand, request_at, requests}
use Rattle.strand_machine.proofs.Stand.SendWrite.{stand_written}
use Rattle.strand_machine.proofs.Turn.Steps.{write_found, write_none}

module _ (g : Settings) (prog : Program) (s : State) (x : Extents) (m : PartsSeen) (stand : Stand g x s m) (j : ℕ) where
  listed : m.control.requests ≡ requests g s
  listed = ap (λ (f : Flight). f.requests) stand.control

  pub turn_none : slice_get m.control.requests j ≡ None → turn g prog s (Write j) ≡ Bubble causes.NoEntry
  turn_none e = write_none g prog s j (ap (λ rs. slice_get rs j) (sym listed) ∙ e)

  -- the persist of a request, and the turn of its write
  pub turn_found : (r : Request) (older : Bool) → slice_get m.control.requests j ≡ Some r → older_waits m.control.requests j r.word ≡ older
      → (p : ℕ) × (slice_get s.flight j ≡ Some p) × (r ≡ request_at g s p) × (turn g prog s (Write j) ≡ (if older then Bubble causes.OlderWaits else Done))
  turn_found r older there is =
      let found = write_found g prog s j r (ap (λ rs. slice_get rs j) (sym listed) ∙ there) in
      (found.0, found.1, found.2, found.3 ∙ ap (λ b. if b then Bubble causes.OlderWaits else Done) (ap (λ rs. older_waits rs j r.word) (sym listed) ∙ is))

  -- the parts after the write of persist p
  pub stand_write : (r : Request) (p : ℕ) → r ≡ request_at g s p → 0 < g.buffers → event_is is_persist s.now.trace p ≡ true → core_at s.now.trace p < length s.now.cores → p < length s.durable
      → Stand g x (write_after s j (Some p)) (with_written (record m { control = record m.control { requests = remove m.control.requests j } }) r (durable_persists (write_after s j (Some p))))
  stand_write r p is some persist core marked =
      let then_ : PartsSeen = record m { control = record m.control { requests = remove m.control.requests j } } in
      subst (λ (q : Request). Stand g x (write_after s j (Some p)) (with_written then_ q (durable_persists (write_after s j (Some p))))) (sym is)
      (stand_written g s p persist x m stand core (mod_below (strand_number g.mode s.now.trace p) g.buffers some) j marked)
