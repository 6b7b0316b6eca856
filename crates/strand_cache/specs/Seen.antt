-- What contracts see of the caches: a flat memory, each core's counts, and for each core and set the list of its lines.
use Rattle.std.specs.Prelude.{◌≡◌, ℕ, ◌+◌, ◌-◌, ◌^◌, min, Bool, List, [], ◌∷◌, ◌++◌, length, slice_index_or, replicate, if◌then◌else◌}
use Rattle.strand_exec.specs.Memory.{Memory}
use Rattle.strand_cache.specs.declared.change.Change.{Change}
use Rattle.strand_cache.specs.declared.counts.Counts.{Counts}
use Rattle.strand_cache.specs.Accesses.{LineAccess}
use Rattle.strand_cache.specs.Hits.{Shape, shape_of, hit}
use Rattle.strand_cache.specs.Lists.{StandsFor}
use Rattle.strand_cache.specs.Changes.{access_of}

pub record Seen : Type 0 where
  pub cores : ℕ
  pub sets : ℕ
  pub ways : ℕ
  pub memory : Memory
  pub counts : List Counts
  -- for each set and core, the lines held, the most recently accessed first
  pub lines : List (List (List ℕ))

abbrev pub shape_seen : Seen → Shape
shape_seen seen = shape_of seen.sets seen.ways

-- the lines of one set that a core holds
abbrev pub lines_seen : Seen → ℕ → ℕ → List ℕ
lines_seen seen core set = slice_index_or (slice_index_or seen.lines set []) core []

-- the caches stand for the accesses
abbrev pub CachesStand : Seen → List LineAccess → Type 0
CachesStand seen xs = StandsFor (shape_seen seen) seen.cores (lines_seen seen) xs

-- a count rises by one, and stands still at the greatest value
abbrev pub one_more : ℕ → ℕ
one_more n = min (n + 1) (2 ^ 64 - 1)

abbrev pub access_counted : Bool → Counts → Counts
access_counted hits counts = if hits then record { hits = one_more counts.hits; misses = counts.misses } else record { hits = counts.hits; misses = one_more counts.misses }

abbrev pub none_counted : Counts
none_counted = record { hits = 0; misses = 0 }

abbrev pub counts_seen : Seen → ℕ → Counts
counts_seen seen core = slice_index_or seen.counts core none_counted

-- for every list for which the caches stand: the access hits by the rule, and the caches then stand for the longer list
abbrev pub IsAccess : Seen → Seen → ℕ → ℕ → Change → Bool → Type 0
IsAccess before after core word change hits =
    (xs : List LineAccess) → CachesStand before xs →
    (hits ≡ hit (shape_seen before) (xs ++ access_of core word change ∷ []) (length xs)) × CachesStand after (xs ++ access_of core word change ∷ [])

-- caches that hold no line yet
abbrev pub empty_caches : ℕ → ℕ → ℕ → List ℕ → List ℕ → Seen
empty_caches cores sets ways volatile persistent = record {
  cores = cores;
  sets = sets;
  ways = ways;
  memory = record { volatile = volatile; persistent = persistent };
  counts = replicate cores none_counted;
  lines = replicate sets (replicate cores []);
}
