-- The caches of the machine, and what they hold for a state.
use Rattle.std.specs.Prelude.{◌≡◌, ℕ, List, length, map}
use Rattle.std.specs.List.{filter, range_with_len}
use Rattle.strand_inputs.specs.Settings.{Settings}
use Rattle.strand_events.specs.declared.event.Event.{Event}
use Rattle.strand_events.specs.Trace.{is_access, is_store, core_of, word_of}
use Rattle.strand_rules.specs.Cycle.{State}
use Rattle.strand_cache.specs.declared.counts.Counts.{Counts}
use Rattle.strand_cache.specs.Accesses.{LineAccess, cache_line_of}
use Rattle.strand_cache.specs.Hits.{shape_of}
use Rattle.strand_cache.specs.Totals.{hits_of, misses_of}
use Rattle.strand_cache.specs.Seen.{Seen, CachesStand, shape_seen}

-- an access of the trace, as one to its word's line
abbrev pub line_access : Event → LineAccess
line_access e = record { core = core_of e; line = cache_line_of (word_of e); stores = is_store e }

-- the accesses of a trace
abbrev pub accesses_of : List Event → List LineAccess
accesses_of t = map line_access (filter is_access t)

-- how many of core n's accesses hit by the cache rule, and how many missed
abbrev pub core_counts : Settings → List Event → ℕ → Counts
core_counts g t n = record { hits = hits_of (shape_of g.sets g.ways) n (accesses_of t); misses = misses_of (shape_of g.sets g.ways) n (accesses_of t) }

-- the same of so many cores
abbrev pub cache_counts : Settings → ℕ → List Event → List Counts
cache_counts g cores t = map (core_counts g t) (range_with_len 0 cores)

-- the caches stand for the state
pub record CacheStands (g : Settings) (s : State) (cache : Seen) : Type 0 where
  pub cores : cache.cores ≡ length s.now.cores
  pub shape : shape_seen cache ≡ shape_of g.sets g.ways
  pub memory : cache.memory ≡ s.now.memory
  pub accesses : CachesStand cache (accesses_of s.now.trace)
  pub counts : cache.counts ≡ cache_counts g (length s.now.cores) s.now.trace
