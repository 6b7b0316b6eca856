use Rattle.std.proofs.Common.{◌≡◌, ◌-◌, ◌≤◌, drop, length}
use Rattle.strand_buffer.specs.Entries.{trimmed}
use Rattle.strand_buffer.proofs.stages.released_in_front.Given as goal

abbrev pub invariant-loop-count : goal.invariant-loop-count
invariant-loop-count l = record { same : trimmed (drop l.count l.entries) ≡ trimmed l.entries; within : l.count ≤ length l.entries }

abbrev pub decreases-loop-count : goal.decreases-loop-count
decreases-loop-count l = length l.entries - l.count
