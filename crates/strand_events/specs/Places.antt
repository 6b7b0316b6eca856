-- The persists of a trace lie among the persistent words.
use Rattle.std.specs.Prelude.{◌≡◌, ℕ, ◌<◌, true, List}
use Rattle.strand_base.specs.Places.{persistent_place, address_of}
use Rattle.strand_events.specs.declared.event.Event.{Event}
use Rattle.strand_events.specs.Trace.{is_persist, word_at, event_is}

-- each persist is to one of so many words
abbrev pub LieIn : List Event → ℕ → Type 0
LieIn t words = (p : ℕ) → event_is is_persist t p ≡ true → (word_at t p ≡ address_of (persistent_place (word_at t p))) × (persistent_place (word_at t p) < words)
