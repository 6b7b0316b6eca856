-- The copies so far are not the one that is sought.
use Rattle.std.proofs.Common.{◌≡◌, drop}
use Rattle.std.specs.List.{find}
use Rattle.strand_cache.specs.Copies.{is_of}
use Rattle.strand_cache.proofs.row.Row.find.Given as goal

abbrev pub invariant-loop-held : goal.invariant-loop-held
invariant-loop-held l = find (is_of l.line) l.held-items ≡ find (is_of l.line) (drop l.held-index l.held-items)
