-- What the plain machine keeps of its fields.
use Rattle.std.specs.Prelude.{◌≡◌, ◌≤◌, vec_capacity}
use Rattle.strand_exec.specs.Memory.{extents_of}
use Rattle.strand_rules.specs.declared.plain_machine.PlainMachine.TheInside.{Inside}
use Rattle.strand_rules.specs.Cycle.{IsReached}
use Rattle.strand_rules.specs.Machine.{Machine}
use Rattle.strand_rules.specs.Next.{AreKeptWaits}
use Rattle.strand_rules.specs.Pipeline.{with_memory}

-- the machine of the fields
abbrev pub seen : Inside → Machine
seen m = with_memory m.memory m.pipeline

-- A run reaches the machine's state, and the memory has the regions of its program. Under tag the waits of the events are kept, with room for all steps.
pub record IsKeptPlainMachine (m : Inside) : Type 0 where
  pub extents : extents_of m.memory ≡ m.pipeline.program.sizes
  pub reached : IsReached (seen m).config (seen m).program (seen m).state
  pub waits : AreKeptWaits m.pipeline.config.conflict m.pipeline.config.mode m.pipeline.state.now.trace m.waits.items
  pub waits_room : m.pipeline.steps ≤ vec_capacity m.waits
