-- A list of accesses of cores to lines, the oldest first. An access is named by its moment, its place in the list.
use Rattle.std.specs.Prelude.{ℕ, ◌/◌, ◌%◌, Bool, false, ◌&&◌, ◌==◌, not, List, Option, Some, None, slice_get}
use Rattle.strand_cache.specs.declared.lines.TheConstants.{LINE_BYTES}

-- the line of a word, which has eight words of eight bytes, and the word's place there
abbrev pub cache_line_of : ℕ → ℕ
cache_line_of word = word / LINE_BYTES

abbrev pub line_place : ℕ → ℕ
line_place word = word % LINE_BYTES / 8

-- a load or a store by a core of a word of a line
pub record LineAccess : Type 0 where
  pub core : ℕ
  pub line : ℕ
  pub stores : Bool

-- an access of the core to the line
abbrev pub touches : ℕ → ℕ → LineAccess → Bool
touches core line x = (x.core == core) && (x.line == line)

-- a store of another core to the line
abbrev pub takes : ℕ → ℕ → LineAccess → Bool
takes core line x = x.stores && not (x.core == core) && (x.line == line)

abbrev pub passes : (LineAccess → Bool) → Option LineAccess → Bool
passes test None = false
passes test (Some x) = test x

abbrev pub core_in : Option LineAccess → ℕ
core_in None = 0
core_in (Some x) = x.core

abbrev pub line_in : Option LineAccess → ℕ
line_in None = 0
line_in (Some x) = x.line

-- there is an access at moment k, and it passes the test
abbrev pub access_is : (LineAccess → Bool) → List LineAccess → ℕ → Bool
access_is test xs k = passes test (slice_get xs k)

-- the core and the line of access k
abbrev pub core_at : List LineAccess → ℕ → ℕ
core_at xs k = core_in (slice_get xs k)

abbrev pub line_at : List LineAccess → ℕ → ℕ
line_at xs k = line_in (slice_get xs k)
