-- A sink in memory: the bytes that it keeps, and when it fails.
use Rattle.std.specs.Prelude.{ℕ, ◌+◌, Bool, false, ◌&&◌, nat_le, List, ◌++◌, length, Some, None, if◌then◌else◌}
use Rattle.std.specs.declared.option.Option.{Option}
use Rattle.strand_base.specs.FaultPlanSeen.{FaultPlanSeen}
use Rattle.strand_base.specs.SinkSeen.{SinkSeen}

-- the bytes taken while they fit into the room
pub record Kept : Type 0 where
  pub bytes : List ℕ
  -- the most bytes that it keeps
  pub room : ℕ
  -- all bytes taken so far are kept
  pub whole : Bool

-- the bytes taken, told as long as all are kept
abbrev pub taken_of : Kept → Option (List ℕ)
taken_of kept = if kept.whole then Some kept.bytes else None

-- A piece that fits is kept. From the first that doesn't, nothing more is kept or told.
abbrev pub keeping : List ℕ → Kept → Kept
keeping piece kept =
    if kept.whole && nat_le (length kept.bytes + length piece) kept.room
    then record { bytes = kept.bytes ++ piece; room = kept.room; whole = kept.whole }
    else record { bytes = kept.bytes; room = kept.room; whole = false }

pub record SinkInMemory : Type 0 where
  pub kept : Kept
  -- the most bytes that one call takes
  pub most : ℕ
  -- which calls are to fail
  pub plan : FaultPlanSeen
  -- how many faults there were
  pub faults : ℕ

-- what the trait sees of it
abbrev pub sink_in_memory : SinkInMemory → SinkSeen
sink_in_memory sink = record { taken = taken_of sink.kept; faults = sink.faults; puts = sink.plan.made }

pub record NeverFailing : Type 0 where
  pub kept : Kept
  -- how many puts were made
  pub puts : ℕ

-- what the trait sees of a sink that never fails
abbrev pub sink_never_failing : NeverFailing → SinkSeen
sink_never_failing sink = record { taken = taken_of sink.kept; faults = 0; puts = sink.puts }
