-- The last events of a core that its next event has edges from.
use Rattle.std.specs.Prelude.{◌≡◌, ℕ, suc, ◌<◌, List, length, slice_index_or, max, if◌then◌else◌}
use Rattle.strand_base.specs.declared.limits.TheConstants.{CORE_ROOM}
use Rattle.strand_inputs.specs.declared.mode.Mode.{Mode}
use Rattle.strand_inputs.specs.declared.mode.Mode.TheVariants.{Strict, Epoch, Strand}
use Rattle.strand_events.specs.declared.event.Event.{Event}
use Rattle.strand_events.specs.Trace.{is_barrier, is_new_strand, is_join, core_event_is}
use Rattle.strand_order.specs.Graph.{access_or_join, drained_by}
use Rattle.strand_order.specs.Lasts.{since_below, cut}
use Rattle.strand_order.specs.declared.lasts.CoreLasts.{CoreLasts}

-- the last events of the core below n, by their kinds
abbrev pub core_lasts : List Event → ℕ → ℕ → CoreLasts
core_lasts t core n = record {
  step = since_below n (core_event_is access_or_join core t);
  drained = since_below n (core_event_is drained_by core t);
  barrier = since_below n (core_event_is is_barrier core t);
  begin = since_below n (core_event_is is_new_strand core t);
  join = since_below n (core_event_is is_join core t);
}

-- after event n of the core
abbrev pub lasts_after : Event → ℕ → CoreLasts → CoreLasts
lasts_after e n m = record {
  step = if access_or_join e then suc n else m.step;
  drained = if drained_by e then suc n else m.drained;
  barrier = if is_barrier e then suc n else m.barrier;
  begin = if is_new_strand e then suc n else m.begin;
  join = if is_join e then suc n else m.join;
}

-- where the open strand began
abbrev pub begin_in : Mode → CoreLasts → ℕ
begin_in Strict m = 0
begin_in Epoch m = 0
begin_in Strand m = m.begin

-- the gate: the last join, or a later barrier of the open strand
abbrev pub gate_in : Mode → CoreLasts → ℕ
gate_in mode m = max m.join (cut (begin_in mode m) m.barrier)

abbrev pub no_lasts : CoreLasts
no_lasts = record { step = 0; drained = 0; barrier = 0; begin = 0; join = 0 }

-- each of the eight cores' last events are those of its events below n
abbrev pub AreCoreLasts : List Event → ℕ → List CoreLasts → Type 0
AreCoreLasts t n lasts = (length lasts ≡ CORE_ROOM) × ((core : ℕ) → core < CORE_ROOM → slice_index_or lasts core no_lasts ≡ core_lasts t core n)
