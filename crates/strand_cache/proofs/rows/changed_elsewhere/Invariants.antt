-- No core so far, but for its own, holds a changed copy.
use Rattle.std.proofs.Common.{◌≡◌, ℕ, ◌<◌, None}
use Rattle.std.specs.Prelude.{◌≢◌}
use Rattle.std.specs.List.{find}
use Rattle.strand_cache.specs.Copies.{is_changed, row_of}
use Rattle.strand_cache.proofs.rows.changed_elsewhere.Given as goal

abbrev pub invariant-loop-i : goal.invariant-loop-i
invariant-loop-i l = (c : ℕ) → c < l.i → c ≢ l.core → find (is_changed l.line) (row_of l.rows c) ≡ None
