-- The accesses of a trace as tags are told of them, and whether an access must wait, by counts of persists.
use Rattle.std.specs.Prelude.{ℕ, ◌+◌, nat_lt, Bool, List, map, length}
use Rattle.strand_base.specs.declared.limits.TheConstants.{CORE_ROOM}
use Rattle.strand_base.specs.Counting.{list_below, any_below}
use Rattle.strand_inputs.specs.declared.mode.Mode.{Mode}
use Rattle.strand_inputs.specs.declared.conflict.Conflict.{Conflict}
use Rattle.strand_inputs.specs.declared.conflict.Conflict.TheVariants.{Stall, Tag}
use Rattle.strand_events.specs.declared.event.Event.{Event}
use Rattle.strand_events.specs.Trace.{is_access, is_store, core_at, word_at, event_is, strand_number}
use Rattle.strand_events.specs.Order.{Set}
use Rattle.strand_events.specs.Prefixes.{made_below, durable_prefix}
use Rattle.strand_events.specs.Waits.{each_core, wait_vector}
use Rattle.strand_tags.specs.Access.{Access, Noted, access, noted_as, covered}

-- event a of the trace, an access, as tags are asked of it
abbrev pub access_at : Mode → List Event → ℕ → Access
access_at mode t a = access (core_at t a) (strand_number mode t a) (word_at t a) (event_is is_store t a)

-- the wait that is noted with it: none where conflicting accesses stall
abbrev pub noted_wait : Conflict → Mode → List Event → ℕ → List ℕ
noted_wait Stall mode t a = each_core (λ c. 0)
noted_wait Tag mode t a = wait_vector mode t a

-- the same event as it is noted, with the persists that its core had made then, its own counted
abbrev pub noted_at : Conflict → Mode → List Event → ℕ → Noted
noted_at conflict mode t a = noted_as (access_at mode t a) (made_below t (core_at t a) (a + 1)) (noted_wait conflict mode t a)

-- the accesses among the events below an end, as they are noted
abbrev pub noted_below : Conflict → Mode → List Event → ℕ → List Noted
noted_below conflict mode t end = map (noted_at conflict mode t) (list_below end (event_is is_access t))

-- the accesses of a trace, as they are noted
abbrev pub noted_accesses : Conflict → Mode → List Event → List Noted
noted_accesses conflict mode t = noted_below conflict mode t (length t)

-- for some core, event b covers more persists than its first ones that are all durable
abbrev pub waits_by_counts : Mode → List Event → Set → ℕ → Bool
waits_by_counts mode t durable b = any_below CORE_ROOM (λ c. nat_lt (durable_prefix t durable c) (covered c (access_at mode t b) (noted_below Stall mode t b)))
