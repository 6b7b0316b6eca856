-- Chains of persist order, by event numbers.
use Rattle.std.specs.Prelude.{◌≡◌, ℕ, true, List, [], ◌∷◌, map, slice_index}
use Rattle.strand_inputs.specs.declared.mode.Mode.{Mode}
use Rattle.strand_events.specs.declared.event.Event.{Event}
use Rattle.strand_events.specs.Trace.{is_persist, event_is, persists_of}
use Rattle.strand_events.specs.Order.{Before}

-- persists, each of them before the next
abbrev pub IsChain : Mode → List Event → List ℕ → Type 0
IsChain mode t [] = Unit {0}
IsChain mode t (p ∷ []) = event_is is_persist t p ≡ true
IsChain mode t (p ∷ q ∷ ps) = (event_is is_persist t p ≡ true) × Before mode t p q × IsChain mode t (q ∷ ps)

-- the events of persists by their numbers
abbrev pub events_of : List Event → List ℕ → List ℕ
events_of t numbers = map (λ p. slice_index (persists_of t) p) numbers
