-- Where the latest earlier entry of a word stands in a buffer's list.
use Rattle.std.specs.Prelude.{◌≡◌, ◌≢◌, ℕ, ◌+◌, ◌-◌, ◌<◌, ◌≤◌, List, length, slice_index}
use Rattle.strand_buffer.specs.declared.entry.Entry.{Entry}
use Rattle.strand_buffer.specs.Entries.{word_at}

-- Of the entries before place i, the latest of this word stands so far before i. None has the word where that is past the first entry.
pub record IsLink (entries : List Entry) (i word distance : ℕ) : Type 0 where
  pub some : 0 < distance
  pub apart : (h : ℕ) → h < i → i < h + distance → word_at entries h ≢ word
  pub alike : distance ≤ i → word_at entries (i - distance) ≡ word

-- each entry's link to the latest earlier entry of its word
pub record AreLinked (entries : List Entry) (links : List ℕ) : Type 0 where
  pub count : length links ≡ length entries
  pub each : (i : ℕ) → i < length entries → IsLink entries i (word_at entries i) (slice_index links i)
