-- How many accesses of each core hit and missed, as lines.
use Rattle.std.specs.Prelude.{ℕ, List, [], ◌∷◌}
use Rattle.std.specs.Fmt.{decimal}
use lib.Chars.{codes}
use Rattle.strand_base.specs.Text.{line_text}
use Rattle.strand_cache.specs.declared.counts.Counts.{Counts}

-- "cache N hits A misses B": so many accesses of core N
abbrev pub cache_line : ℕ → Counts → List ℕ
cache_line n counts =
    line_text (codes "cache" ∷ decimal n ∷ codes "hits" ∷ decimal counts.hits ∷ codes "misses" ∷ decimal counts.misses ∷ [])
