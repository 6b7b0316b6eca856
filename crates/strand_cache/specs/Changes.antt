-- What one access does: its word and the memory after it, and the access as one to a line.
use Rattle.std.specs.Prelude.{ℕ, Bool, true, false}
use Rattle.strand_exec.specs.Arith.{merged}
use Rattle.strand_exec.specs.Memory.{Memory, with_word, word_in}
use Rattle.strand_cache.specs.declared.change.Change.{Change}
use Rattle.strand_cache.specs.declared.change.Change.TheVariants.{Read, Merge}
use Rattle.strand_cache.specs.Accesses.{LineAccess, cache_line_of}

abbrev pub stores : Change → Bool
stores Read = false
stores (Merge mask bits) = true

-- the word after the access
abbrev pub word_after : Change → ℕ → ℕ
word_after Read word = word
word_after (Merge mask bits) word = merged word mask bits

-- the memory after an access to a word: a store changes that word alone
abbrev pub memory_after : Change → ℕ → Memory → Memory
memory_after Read word memory = memory
memory_after (Merge mask bits) word memory = with_word memory word (merged (word_in memory word) mask bits)

-- an access of a core to a word, as one to its line
abbrev pub access_of : ℕ → ℕ → Change → LineAccess
access_of core word change = record { core = core; line = cache_line_of word; stores = stores change }
