-- What holds of the copies of lines: with the backing words they stand for one flat memory, and a changed copy is its line's only one.
use Rattle.std.specs.Prelude.{◌≡◌, ℕ, ◌%◌, ◌^◌, ◌<◌, ◌≤◌, ◌⊎◌, true, false, List, [], ◌∷◌, length, slice_index, slice_set, Option, None, Some, ◌==◌, if◌then◌else◌}
use Rattle.std.specs.List.{list_any}
use Rattle.strand_cache.specs.declared.lines.TheConstants.{LINE_WORDS}
use Rattle.strand_exec.specs.Core.{Extents}
use Rattle.strand_exec.specs.Memory.{Memory, extents_of, word_in}
use Rattle.strand_exec.specs.Plan.{IsWord}
use Rattle.strand_exec.specs.Arith.{merged}
use Rattle.strand_cache.specs.Accesses.{cache_line_of, line_place}
use Rattle.strand_cache.specs.Hits.{shape_of}
use Rattle.strand_cache.specs.Lists.{lines_after}
use Rattle.strand_cache.specs.Changes.{word_after, access_of}
use Rattle.strand_cache.specs.declared.access.Access.{Access}
use Rattle.strand_cache.specs.declared.held_line.HeldLine.{HeldLine}
use Rattle.strand_cache.specs.declared.change.Change.{Change}
use Rattle.strand_cache.specs.declared.change.Change.TheVariants.{Read, Merge}
use Rattle.strand_cache.specs.Copies.{is_changed, row_lines, row_of}
use Rattle.strand_cache.specs.Backing.{line_word, word_or_zero, with_line}

-- a row holds the copy
abbrev pub Among : HeldLine → List HeldLine → Type 0
Among held [] = ⊥
Among held (x ∷ row) = (held ≡ x) ⊎ Among held row

-- a row holds each line once
abbrev pub HoldsOnce : List HeldLine → Type 0
HoldsOnce [] = Unit {0}
HoldsOnce (x ∷ row) = ((held : HeldLine) → Among held row → held.line ≡ x.line → ⊥) × HoldsOnce row

-- the memory after a line was pushed out of a row: a changed one is written back
abbrev pub put_back : Option HeldLine → Memory → Memory
put_back None memory = memory
put_back (Some held) memory = if held.changed then with_line memory held.line held.words else memory

-- the rows of one set, one for each core, and the backing words stand for the words of a flat memory
pub record Coheres (extents : Extents) (sets ways set : ℕ) (rows : List (List HeldLine)) (backing : Memory) (flat : ℕ → ℕ) : Type 0 where
  -- a row has at most `ways` lines, all of the set, each once
  pub short : (core : ℕ) → length (row_of rows core) ≤ ways
  pub placed : (core : ℕ) (held : HeldLine) → Among held (row_of rows core) → (held.line % sets ≡ set) × (held.line < 2 ^ 32)
  pub once : (core : ℕ) → HoldsOnce (row_of rows core)
  -- where a core has changed its copy, no other core has one
  pub sole : (core other : ℕ) (held copy : HeldLine) → Among held (row_of rows core) → Among copy (row_of rows other) → held.changed ≡ true → copy.line ≡ held.line → core ≡ other
  -- each copy has the flat memory's words
  pub agree : (core : ℕ) (held : HeldLine) → Among held (row_of rows core) → (word : ℕ) → IsWord extents word → cache_line_of word ≡ held.line → slice_index held.words (line_place word) ≡ flat word
  -- where no core has changed a line, the backing words are the flat memory's
  pub free : (word : ℕ) → IsWord extents word → cache_line_of word % sets ≡ set → ((core : ℕ) (held : HeldLine) → Among held (row_of rows core) → is_changed (cache_line_of word) held ≡ false) → word_in backing word ≡ flat word

-- a core's copy of a line after an access to the word at a place of it
abbrev pub copy_after : Change → ℕ → HeldLine → HeldLine
copy_after Read place held = held
copy_after (Merge mask bits) place held = record { line = held.line; changed = true; words = slice_set held.words place (merged (slice_index held.words place) mask bits) }

-- the words with another value in one of them
abbrev pub with_value : (ℕ → ℕ) → ℕ → ℕ → ℕ → ℕ
with_value flat word value other = if other == word then value else flat other

-- the rows can be written back: they are short, and their lines have addresses
pub record IsBounded (ways : ℕ) (rows : List (List HeldLine)) : Type 0 where
  pub short : (core : ℕ) → length (row_of rows core) ≤ ways
  pub low : (core : ℕ) (held : HeldLine) → Among held (row_of rows core) → held.line < 2 ^ 32

-- what an access leaves, where the copies and the backing words stood for a flat memory
pub record Accessed (extents : Extents) (sets ways set : ℕ) (rows : List (List HeldLine)) (before after : Memory) (flat : ℕ → ℕ) (word : ℕ) (change : Change) (answer : ℕ) : Type 0 where
  -- the value is the flat memory's word after the access
  pub value : answer ≡ word_after change (flat word)
  pub coheres : Coheres extents sets ways set rows after (with_value flat word (word_after change (flat word)))
  -- the backing words of other sets are as before
  pub others : (other : ℕ) → IsWord extents other → (cache_line_of other % sets ≡ set → ⊥) → word_in after other ≡ word_in before other

-- one access of a core to a word: what it saw, and what it leaves of the rows of the word's set and of the backing words
pub record IsSetAccess (core word ways : ℕ) (change : Change) (before after : List (List HeldLine)) (backing backing' : Memory) (seen : Access) : Type 0 where
  pub hit : seen.hit ≡ list_any (λ line. cache_line_of word == line) (row_lines (row_of before core))
  -- each core's list of the set's lines takes the step of the rule
  pub lines : (sets set : ℕ) → cache_line_of word % sets ≡ set → (c : ℕ) → row_lines (row_of after c) ≡ lines_after (shape_of sets ways) (access_of core word change) c set (row_lines (row_of before c))
  pub extents : extents_of backing' ≡ extents_of backing
  pub rows : length after ≡ length before
  -- for every flat memory that the rows and the backing words stood for
  pub accessed : (sets set : ℕ) (flat : ℕ → ℕ) → cache_line_of word % sets ≡ set → Coheres (extents_of backing) sets ways set before backing flat
      → Accessed (extents_of backing) sets ways set after backing backing' flat word change seen.value

-- the copy that a core goes on with: its own, else one with the backing words
pub record Fetched (line : ℕ) (found : Option HeldLine) (backing : Memory) (held : HeldLine) : Type 0 where
  pub kept : (own : HeldLine) → found ≡ Some own → held ≡ own
  pub fresh : found ≡ None → (held.line ≡ line) × (held.changed ≡ false) × ((place : ℕ) → place < LINE_WORDS → slice_index held.words place ≡ word_or_zero backing (line_word line place))

-- a copy after an access to the word at a place
pub record CopyAfter (change : Change) (place : ℕ) (before after : HeldLine) : Type 0 where
  pub copy : after ≡ copy_after change place before
  pub word : slice_index after.words place ≡ word_after change (slice_index before.words place)
  pub others : (other : ℕ) → (other ≡ place → ⊥) → slice_index after.words other ≡ slice_index before.words other
