-- A machine without its visible memory, and the memory beside it.
use Rattle.std.specs.Prelude.{ℕ, List, [], ◌∷◌, ◌++◌, slice_get, slice_set, Some, None}
use Rattle.std.specs.declared.option.Option.{Option}
use Rattle.strand_exec.specs.Core.{Core}
use Rattle.strand_exec.specs.Memory.{Memory, word_in}
use Rattle.strand_exec.specs.Plan.{after}
use Rattle.strand_exec.specs.declared.effect.Effect.{Effect}
use Rattle.strand_exec.specs.declared.planned.Plan.{Plan}
use Rattle.strand_exec.specs.declared.planned.Plan.TheVariants as plans
use Rattle.strand_events.specs.declared.event.Event.{Event}
use Rattle.strand_inputs.specs.Settings.{Settings}
use Rattle.strand_rules.specs.Visible.{Program, with_event}
use Rattle.strand_rules.specs.Cycle.{State, unmarked, IsReached}
use Rattle.strand_rules.specs.Machine.{Machine}

-- the memory of no words
abbrev pub no_memory : Memory
no_memory = record { volatile = []; persistent = [] }

-- the state with this memory
abbrev pub state_with : Memory → State → State
state_with memory s = record s { now = record s.now { memory = memory } }

-- the machine with this memory
abbrev pub with_memory : Memory → Machine → Machine
with_memory memory m = record m { state = state_with memory m.state }

-- there is a memory with which a run reaches the state
abbrev pub IsReachedWithSome : Settings → Program → State → Type 0
IsReachedWithSome g p s = (memory : Memory) × IsReached g p (state_with memory s)

-- the word that a store finds
abbrev pub overwritten : Memory → Plan → ℕ
overwritten memory (plans.Store word mask bits) = word_in memory word
overwritten memory _ = 0

-- the cores after an effect of core n, where `loaded` is the word that its load found
abbrev pub cores_after : List Core → ℕ → Option Core → ℕ → Effect → List Core
cores_after cores n None loaded effect = cores
cores_after cores n (Some core) loaded effect = slice_set cores n (after core loaded effect)

-- the state after core n retired an instruction of this effect, which made this event, but for its memory
abbrev pub retired_to : State → ℕ → Effect → Option Event → ℕ → State
retired_to s n effect event loaded = record s {
  now = record s.now { cores = cores_after s.now.cores n (slice_get s.now.cores n) loaded effect; trace = with_event s.now.trace event };
  retired = s.retired ++ n ∷ [];
  buffered = unmarked s.buffered event;
  durable = unmarked s.durable event;
}
