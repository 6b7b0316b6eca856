-- Serves the calls and laws of the crates above: an event that passes a test is in the trace.
use Rattle.std.proofs.Common.{◌≡◌, ℕ, zero, suc, ◌<◌, Bool, true, List, [], ◌∷◌, length, arith}
use Rattle.std.proofs.lemmas.Bool.{false≢true}
use Rattle.strand_events.specs.declared.event.Event.{Event}
use Rattle.strand_events.specs.Trace.{event_is}

pub event_within : (test : Event → Bool) (t : List Event) (i : ℕ) → event_is test t i ≡ true → i < length t
event_within test [] i h = absurd (false≢true h)
event_within test (e ∷ t) zero h = omega arith
event_within test (e ∷ t) (suc i) h = omega (arith, event_within test t i h)
