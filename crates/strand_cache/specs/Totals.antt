-- How many of a core's accesses hit, and how many missed.
use Rattle.std.specs.Prelude.{ℕ, ◌&&◌, ◌==◌, not, List, length}
use Rattle.strand_base.specs.Counting.{count_below}
use Rattle.strand_cache.specs.Accesses.{LineAccess, core_at}
use Rattle.strand_cache.specs.Hits.{Shape, hit}

abbrev pub hits_of : Shape → ℕ → List LineAccess → ℕ
hits_of shape core xs = count_below (length xs) (λ j. (core_at xs j == core) && hit shape xs j)

abbrev pub misses_of : Shape → ℕ → List LineAccess → ℕ
misses_of shape core xs = count_below (length xs) (λ j. (core_at xs j == core) && not (hit shape xs j))
