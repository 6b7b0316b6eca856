-- A flat memory of volatile and persistent words, and what one read and one write do.
use Rattle.std.specs.Prelude.{ℕ, ◌-◌, ◌/◌, nat_lt, List, length, slice_index, slice_set, if◌then◌else◌}
use Rattle.strand_base.specs.declared.regions.TheConstants.{VOLATILE_BASE, PERSISTENT_BASE}
use Rattle.strand_exec.specs.Core.{Extents}

pub record Memory : Type 0 where
  pub volatile : List ℕ
  pub persistent : List ℕ

abbrev pub extents_of : Memory → Extents
extents_of memory = record { volatile = length memory.volatile; persistent = length memory.persistent }

-- the word at an address of one of the two regions
unfoldable pub word_in : Memory → ℕ → ℕ
word_in memory word =
    if nat_lt word PERSISTENT_BASE then slice_index memory.volatile ((word - VOLATILE_BASE) / 8) else slice_index memory.persistent ((word - PERSISTENT_BASE) / 8)

-- the memory with another value in one word
unfoldable pub with_word : Memory → ℕ → ℕ → Memory
with_word memory word value =
    if nat_lt word PERSISTENT_BASE then record memory { volatile = slice_set memory.volatile ((word - VOLATILE_BASE) / 8) value } else record memory { persistent = slice_set memory.persistent ((word - PERSISTENT_BASE) / 8) value }
