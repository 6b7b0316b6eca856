-- Which events a trace takes.
use Rattle.std.specs.Prelude.{◌≡◌, ℕ, ◌<◌, Bool, List, nat_le}
use Rattle.std.specs.List.{AllByRecursion}
use Rattle.strand_base.specs.declared.limits.TheConstants.{CORE_ROOM}
use Rattle.strand_base.specs.declared.regions.TheConstants.{PERSISTENT_BASE}
use Rattle.strand_events.specs.declared.event.Event.{Event}
use Rattle.strand_events.specs.declared.event.Event.TheVariants.{Store}
use Rattle.strand_events.specs.Trace.{core_of}

-- a word of the persistent region
abbrev pub is_persistent : ℕ → Bool
is_persistent word = nat_le PERSISTENT_BASE word

-- a store is a persist exactly where its word is persistent
abbrev pub KindIsRight : Event → Type 0
KindIsRight (Store persist core word value) = persist ≡ is_persistent word
KindIsRight _ = Unit {0}

-- the event is of one of eight cores, and marked as a persist exactly where it is one
abbrev pub EventFits : Event → Type 0
EventFits e = (core_of e < CORE_ROOM) × KindIsRight e

abbrev pub AllFit : List Event → Type 0
AllFit t = AllByRecursion EventFits t
