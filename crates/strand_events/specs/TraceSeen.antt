-- A trace that is being made, as contracts see it.
use Rattle.std.specs.Prelude.{◌≡◌, ℕ, ◌^◌, ◌<◌, ◌≤◌, List, length}
use Rattle.strand_base.specs.declared.limits.TheConstants.{CORE_ROOM}
use Rattle.strand_events.specs.declared.event.Event.{Event}
use Rattle.strand_events.specs.declared.event_counts.EventCounts.{EventCounts}
use Rattle.strand_events.specs.Trace.{persists_of}
use Rattle.strand_events.specs.Fits.{AllFit}
use Rattle.strand_events.specs.EventCounts.{AreEventCounts, AreLatest}

pub record TraceSeen : Type 0 where
  -- the events, the oldest first
  pub events : List Event
  -- how many events there is room for
  pub room : ℕ

-- what every trace keeps of its events, and of what is noted beside them
pub record IsKeptTrace (events : List Event) (room : ℕ) (persists : List ℕ) (counts latest : List EventCounts) : Type 0 where
  pub within : length events ≤ room
  pub small : room < 2 ^ 32
  pub fits : AllFit events
  pub persists_are : persists ≡ persists_of events
  pub counts_are : AreEventCounts events counts
  pub latest_are : (length latest ≡ CORE_ROOM) × AreLatest events latest
