-- No row so far has a changed copy.
use Rattle.std.proofs.Common.{◌≡◌, drop}
use Rattle.strand_cache.specs.Copies.{owned}
use Rattle.strand_cache.proofs.group.Group.owned.Given as goal

abbrev pub invariant-loop-row : goal.invariant-loop-row
invariant-loop-row l = owned l.line l.row-items ≡ owned l.line (drop l.row-index l.row-items)
