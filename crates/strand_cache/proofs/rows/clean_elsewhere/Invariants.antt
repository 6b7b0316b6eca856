-- The rows so far are cleaned, but for the core's own.
use Rattle.std.proofs.Common.{◌≡◌, ℕ, ◌<◌, ◌≤◌}
use Rattle.std.specs.Prelude.{◌≢◌, map}
use Rattle.strand_cache.specs.Copies.{cleaned, row_of}
use Rattle.strand_cache.proofs.rows.clean_elsewhere.Given as goal

abbrev pub invariant-loop-i : goal.invariant-loop-i
invariant-loop-i l = record {
  own : row_of l.rows l.core ≡ row_of l.initial.rows l.core;
  before : (c : ℕ) → c < l.i → c ≢ l.core → row_of l.rows c ≡ map (cleaned l.line) (row_of l.initial.rows c);
  later : (c : ℕ) → l.i ≤ c → row_of l.rows c ≡ row_of l.initial.rows c;
}
