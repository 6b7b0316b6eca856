-- The last joins of the cores.
use Rattle.std.specs.Prelude.{◌≡◌, ℕ, zero, suc, ◌<◌, List, length, slice_index_or, if◌then◌else◌}
use Rattle.strand_base.specs.declared.limits.TheConstants.{CORE_ROOM}
use Rattle.strand_events.specs.declared.event.Event.{Event}
use Rattle.strand_events.specs.Trace.{is_join, core_event_is}

-- one past the core's last join below event n, or 0 where it has none
abbrev pub join_end : ℕ → List Event → ℕ → ℕ
join_end core t zero = 0
join_end core t (suc n) = if core_event_is is_join core t n then suc n else join_end core t n

-- for each of eight cores
abbrev pub AreJoinEnds : List Event → ℕ → List ℕ → Type 0
AreJoinEnds t n ends = (length ends ≡ CORE_ROOM) × ((core : ℕ) → core < CORE_ROOM → slice_index_or ends core 0 ≡ join_end core t n)
