-- The lines of the backing memory: a line has eight words, and the last line of a region may have fewer.
use Rattle.std.specs.Prelude.{◌≤◌, length, ℕ, zero, suc, ◌+◌, ◌*◌, List, slice_index, if◌then◌else◌}
use Rattle.strand_cache.specs.declared.lines.TheConstants.{LINE_BYTES, LINE_WORDS}
use Rattle.strand_base.specs.declared.limits.TheConstants.{MOST_MEMORY}
use Rattle.strand_exec.specs.Memory.{Memory, extents_of, with_word, word_in}
use Rattle.strand_exec.specs.Plan.{is_data}

-- the word at a place of a line
abbrev pub line_word : ℕ → ℕ → ℕ
line_word line place = LINE_BYTES * line + 8 * place

-- a word of the memory, 0 outside its regions
unfoldable pub word_or_zero : Memory → ℕ → ℕ
word_or_zero memory word = if is_data (extents_of memory) word then word_in memory word else 0

-- the memory with the first words of a line put back
abbrev pub put_below : Memory → ℕ → List ℕ → ℕ → Memory
put_below memory line words zero = memory
put_below memory line words (suc k) =
    if is_data (extents_of memory) (line_word line k) then with_word (put_below memory line words k) (line_word line k) (slice_index words k) else put_below memory line words k

-- the memory with the words of a line put back
unfoldable pub with_line : Memory → ℕ → List ℕ → Memory
with_line memory line words = put_below memory line words LINE_WORDS

-- each region has so few words that the volatile ones lie below the persistent ones
pub record IsApart (memory : Memory) : Type 0 where
  pub apart : length memory.volatile ≤ MOST_MEMORY
  pub small : length memory.persistent ≤ MOST_MEMORY
