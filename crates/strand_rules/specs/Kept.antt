-- What a machine keeps: the room it took, its regions' sizes, and what its marks and requests name.
use Rattle.std.specs.Prelude.{◌≡◌, ℕ, ◌^◌, ◌<◌, ◌≤◌, true, length, slice_index, vec_capacity}
use Rattle.strand_base.specs.declared.limits.TheConstants.{MOST_MEMORY, MOST_CORES}
use Rattle.strand_events.specs.Trace.{is_persist, event_is}
use Rattle.strand_events.specs.Order.{set_of}
use Rattle.strand_events.specs.Places.{LieIn}
use Rattle.strand_rules.specs.declared.pipeline.Pipeline.TheInside.{Inside}
use Rattle.strand_rules.specs.Machine.{Machine, durable_persists}
use Rattle.strand_rules.specs.Pipeline.{no_memory, IsReachedWithSome}

-- what a step needs of a machine, and keeps
pub record IsKeptMachine (m : Machine) : Type 0 where
  pub cores : length m.state.now.cores ≤ MOST_CORES
  pub few_volatile : m.program.sizes.volatile ≤ MOST_MEMORY
  pub placed : LieIn m.state.now.trace m.program.sizes.persistent
  pub made_within : m.made ≤ m.steps
  pub few_steps : m.steps < 2 ^ 32
  pub few_events : length m.state.now.trace ≤ m.made
  pub few_retired : length m.state.retired ≤ m.made
  pub dispatched : length m.state.dispatched ≡ length m.state.now.cores
  pub buffered : length m.state.buffered ≡ length m.state.now.trace
  pub durable : length m.state.durable ≡ length m.state.now.trace
  pub few_sent : length m.state.flight ≤ m.config.flight
  -- buffered events and those in flight are persists
  pub waiting : (p : ℕ) → set_of m.state.buffered p ≡ true → event_is is_persist m.state.now.trace p ≡ true
  pub sent : (i : ℕ) → i < length m.state.flight → event_is is_persist m.state.now.trace (slice_index m.state.flight i) ≡ true

-- the machine of the fields, with no memory
abbrev pub seen : Inside → Machine
seen m = record {
  config = m.config;
  program = record { code = m.code; sizes = m.sizes };
  state = record {
    now = record { cores = m.cores.items; memory = no_memory; trace = m.trace.events };
    retired = m.retired.items;
    dispatched = m.dispatched.items;
    buffered = m.buffered.items;
    flight = m.flight.items;
    durable = m.durable.items;
  };
  made = m.made;
  steps = m.steps;
}

-- A run reaches the machine's state, with some memory. The machine has room for all its steps, and marks each persist as durable or not.
pub record IsKeptPipeline (m : Inside) : Type 0 where
  pub kept : IsKeptMachine (seen m)
  pub reached : IsReachedWithSome (seen m).config (seen m).program (seen m).state
  pub persisted : m.persisted.items ≡ durable_persists (seen m).state
  pub room : m.trace.room ≡ m.steps
  pub retired_room : m.steps ≤ vec_capacity m.retired
  pub buffered_room : m.steps ≤ vec_capacity m.buffered
  pub durable_room : m.steps ≤ vec_capacity m.durable
  pub persisted_room : m.steps ≤ vec_capacity m.persisted
  pub flight_room : m.config.flight ≤ vec_capacity m.flight
