-- The words of a crash image, by their places in its list.
use Rattle.std.specs.Prelude.{ℕ, ◌&&◌, ◌==◌, nat_lt, List, length, slice_index}
use Rattle.strand_base.specs.Places.{persistent_place, address_of}
use Rattle.strand_judge.specs.Judged.{Crash}

-- the crash image of two lists: the words' initial values and their values after the crash
abbrev pub crash_of : List ℕ → List ℕ → Crash
crash_of initial found = record {
  has = λ word. (word == address_of (persistent_place word)) && nat_lt (persistent_place word) (length found);
  initial = λ word. slice_index initial (persistent_place word);
  found = λ word. slice_index found (persistent_place word);
}
