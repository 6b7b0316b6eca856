use Rattle.std.proofs.Common.{◌+◌, ◌≤◌}
use Rattle.strand_buffer.specs.Links.{IsLink}
use Rattle.strand_buffer.proofs.links.distance_to.Given as goal

abbrev pub invariant-loop-entry : goal.invariant-loop-entry
invariant-loop-entry l = record { link : IsLink l.entries l.entry-index l.word l.distance; small : l.distance ≤ l.entry-index + 1 }
