-- The ring machine as contracts see it.
use Rattle.std.specs.Prelude.{◌≡◌, ℕ, ◌++◌, [], ◌∷◌, ◌<◌, Bool, List, nat_lt, true, false, length, slice_get, slice_index, Some}
use Rattle.strand_base.specs.declared.limits.TheConstants.{CORE_ROOM}
use Rattle.strand_base.specs.Counting.{any_below}
use Rattle.strand_events.specs.declared.event.Event.{Event}
use Rattle.strand_events.specs.Trace.{core_at, core_of, event_is, is_access, is_persist, word_of}
use Rattle.strand_events.specs.Order.{set_of}
use Rattle.strand_events.specs.Prefixes.{durable_prefix}
use Rattle.strand_exec.specs.Core.{Extents}
use Rattle.strand_exec.specs.Memory.{extents_of}
use Rattle.strand_exec.specs.Plan.{IsWord}
use Rattle.strand_buffer.specs.declared.entry.Slot.{Slot}
use Rattle.strand_buffer.specs.Buffers.{IsEligible}
use Rattle.strand_rules.specs.Cycle.{IsReached, State, eligible}
use Rattle.strand_rules.specs.Kept.{IsKeptMachine}
use Rattle.strand_rules.specs.Machine.{Machine}
use Rattle.strand_tags.specs.Access.{covered}
use Rattle.strand_tags.specs.Traces.{access_at, noted_below}
use Rattle.strand_machine.specs.Stand.{PartsSeen, Stand, buffers_at, prefixes, request_at, tally_at}

-- a machine of the cycle rules, and the parts beside it
pub record RingMachine : Type 0 where
  pub machine : Machine
  pub parts : PartsSeen

-- the parts stand for the machine's state
abbrev pub PartsStand : RingMachine → Type 0
PartsStand m = Stand m.machine.config m.machine.program.sizes m.machine.state m.parts

-- what holds of every ring machine
pub record IsRingMachine (r : RingMachine) : Type 0 where
  pub reached : IsReached r.machine.config r.machine.program r.machine.state
  pub kept : IsKeptMachine r.machine
  pub buffers : 0 < r.machine.config.buffers
  pub stand : PartsStand r
  pub rooms : (n : ℕ) → n < length r.machine.state.now.cores → (tally_at r.parts n).room ≡ r.machine.steps
  pub wait_room : r.parts.waiting.room ≡ r.machine.steps
  pub extents : extents_of r.machine.state.now.memory ≡ r.machine.program.sizes

-- of some core more persists are asked for than its first ones that are all durable
abbrev pub some_missing : State → List ℕ → Bool
some_missing s counts = any_below (length s.now.cores) (λ c. nat_lt (durable_prefix s.now.trace (set_of s.durable) c) (slice_index counts c))

-- The counts are what the event, next in the trace, is made to wait for by the accesses noted before it.
abbrev pub IsCovered : RingMachine → Event → List ℕ → Type 0
IsCovered m e counts = (c : ℕ) → c < CORE_ROOM → slice_index counts c
    ≡ covered c (access_at m.machine.config.mode (m.machine.state.now.trace ++ e ∷ []) (length m.machine.state.now.trace))
    (noted_below m.machine.config.conflict m.machine.config.mode (m.machine.state.now.trace ++ e ∷ []) (length m.machine.state.now.trace))

-- The event is of core n, and an access of it is to a word of the regions.
pub record FitsCore (sizes : Extents) (n : ℕ) (e : Event) : Type 0 where
  pub core : core_of e ≡ n
  pub word : is_access e ≡ true → IsWord sizes (word_of e)

-- Persist p is the eligible one at place j of buffer b of core n, and the core's buffers hand it out as this slot.
pub record SlotIs (m : RingMachine) (n b j : ℕ) (slot : Slot) (p : ℕ) : Type 0 where
  pub at : slice_get (eligible m.machine.config m.machine.state n b) j ≡ Some p
  pub buffered : set_of m.machine.state.buffered p ≡ true
  pub undone : set_of m.machine.state.durable p ≡ false
  pub persist : event_is is_persist m.machine.state.now.trace p ≡ true
  pub core : core_at m.machine.state.now.trace p < length m.machine.state.now.cores
  pub request : record { core = n; buffer = b; number = slot.number; word = slot.word; value = slot.value } ≡ request_at m.machine.config m.machine.state p
  pub eligible : IsEligible (buffers_at m.parts n) b slot.number (prefixes m.parts)
