-- The copies so far are cleaned, the others as before.
use Rattle.std.proofs.Common.{◌≡◌, ◌++◌, take, drop}
use Rattle.std.specs.Prelude.{map}
use Rattle.strand_cache.specs.Copies.{cleaned}
use Rattle.strand_cache.proofs.row.Row.clean.Given as goal

abbrev pub invariant-loop-held : goal.invariant-loop-held
invariant-loop-held l = l.held-items ≡ map (cleaned l.line) (take l.held-index l.initial.held-items) ++ drop l.held-index l.initial.held-items
