-- What the ring machine keeps of its fields.
use Rattle.std.specs.Prelude.{◌≡◌, ℕ, ◌<◌, length}
use Rattle.strand_exec.specs.Memory.{extents_of}
use Rattle.strand_rules.specs.Cycle.{IsReached}
use Rattle.strand_rules.specs.Pipeline.{with_memory}
use Rattle.strand_machine.specs.declared.machine.Machine.TheInside.{Inside}
use Rattle.strand_machine.specs.Stand.{tally_at}
use Rattle.strand_machine.specs.Machine.{RingMachine, PartsStand}

-- the pipeline with the caches' flat memory, and the parts beside it
abbrev pub seen : Inside → RingMachine
seen m = record { machine = with_memory m.parts.cache.memory m.pipeline; parts = m.parts }

-- The parts stand for the state, which a run reaches. There is room for as many persists of a core, and for as many waits, as there may be steps, and the memory has the regions of the program.
pub record IsKeptRingMachine (m : Inside) : Type 0 where
  pub stand : PartsStand (seen m)
  pub rooms : (n : ℕ) → n < length m.pipeline.state.now.cores → (tally_at m.parts n).room ≡ m.pipeline.steps
  pub wait_room : m.parts.waiting.room ≡ m.pipeline.steps
  pub reached : IsReached m.pipeline.config m.pipeline.program (seen m).machine.state
  pub extents : extents_of m.parts.cache.memory ≡ m.pipeline.program.sizes
