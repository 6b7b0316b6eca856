-- All sets together: the flat memory that the copies and the backing words show, and what every set keeps.
use Rattle.std.specs.Prelude.{◌≡◌, ℕ, ◌+◌, ◌*◌, ◌%◌, ◌<◌, ◌≤◌, List, [], map, length, slice_index, slice_index_or, Option, None, Some}
use Rattle.std.specs.List.{range_with_len}
use Rattle.strand_base.specs.declared.limits.TheConstants.{MOST_WAYS}
use Rattle.strand_base.specs.declared.regions.TheConstants.{VOLATILE_BASE, PERSISTENT_BASE}
use Rattle.strand_exec.specs.Memory.{Memory, extents_of, word_in}
use Rattle.strand_cache.specs.declared.held_line.HeldLine.{HeldLine}
use Rattle.strand_cache.specs.Accesses.{cache_line_of, line_place}
use Rattle.strand_cache.specs.Copies.{owned}
use Rattle.strand_cache.specs.Coherence.{Coheres}

-- the rows of one set
abbrev pub group_of : List (List (List HeldLine)) → ℕ → List (List HeldLine)
group_of groups set = slice_index_or groups set []

-- a word of the line that a core has changed, else the backing word
abbrev pub owned_word : Option HeldLine → ℕ → ℕ → ℕ
owned_word None place backing_word = backing_word
owned_word (Some held) place backing_word = slice_index held.words place

abbrev pub flat_value_in : List (List HeldLine) → Memory → ℕ → ℕ
flat_value_in rows backing word = owned_word (owned (cache_line_of word) rows) (line_place word) (word_in backing word)

abbrev pub flat_value : ℕ → List (List (List HeldLine)) → Memory → ℕ → ℕ
flat_value sets groups backing word = flat_value_in (group_of groups (cache_line_of word % sets)) backing word

-- the flat memory: the backing words with the changed lines over them
abbrev pub flat_memory : ℕ → List (List (List HeldLine)) → Memory → Memory
flat_memory sets groups backing = record {
  volatile = map (λ i. flat_value sets groups backing (VOLATILE_BASE + 8 * i)) (range_with_len 0 (length backing.volatile));
  persistent = map (λ i. flat_value sets groups backing (PERSISTENT_BASE + 8 * i)) (range_with_len 0 (length backing.persistent));
}

-- the caches keep together: each set's copies and the backing words stand for the flat memory
pub record IsWhole (cores sets ways : ℕ) (groups : List (List (List HeldLine))) (backing : Memory) : Type 0 where
  pub all_sets : length groups ≡ sets
  pub rows : (set : ℕ) → set < sets → length (group_of groups set) ≡ cores
  pub some_sets : 0 < sets
  pub some_ways : 0 < ways
  pub few_ways : ways ≤ MOST_WAYS
  pub coheres : (set : ℕ) → set < sets → Coheres (extents_of backing) sets ways set (group_of groups set) backing (flat_value sets groups backing)
