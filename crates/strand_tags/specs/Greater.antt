-- Vectors of counts.
use Rattle.std.specs.Prelude.{ℕ, max, List, replicate, slice_index}
use Rattle.strand_base.specs.declared.limits.TheConstants.{CORE_ROOM}
use Rattle.strand_events.specs.Waits.{each_core}
use Rattle.strand_tags.specs.declared.count_vector.CountVector.{CountVector}

-- a vector of zeros
abbrev pub no_counts : CountVector
no_counts = record { counts = replicate CORE_ROOM 0 }

-- the vector of these counts
abbrev pub vector : List ℕ → CountVector
vector counts = record { counts = counts }

-- the greater count at each core
abbrev pub greater : List ℕ → List ℕ → List ℕ
greater one other = each_core (λ c. max (slice_index one c) (slice_index other c))
