-- What the strand buffers keep of their fields.
use Rattle.std.specs.Prelude.{◌≡◌, ℕ, ◌%◌, ◌<◌, ◌≤◌, List, [], length, map, slice_index_or, Some, None}
use Rattle.std.specs.declared.option.Option.{Option}
use Rattle.strand_base.specs.declared.limits.TheConstants.{MOST_BUFFERS, MOST_RING}
use Rattle.strand_buffer.specs.declared.entry.Entry.{Entry}
use Rattle.strand_buffer.specs.declared.buffers.StrandBuffers.TheInside.{Inside}
use Rattle.strand_buffer.specs.Ring.{RingSeen, AreUpTo}
use Rattle.strand_buffer.specs.Buffers.{Buffers}

abbrev pub empty_ring : ℕ → RingSeen
empty_ring room = record { entries = []; room = room }

abbrev pub no_ring : RingSeen
no_ring = empty_ring 0

abbrev pub entries_of : RingSeen → List Entry
entries_of r = r.entries

abbrev pub seen : Inside → Buffers
seen b = record { ring = b.ring; strand = b.strand; lists = map entries_of b.rings.items; number = b.number; epoch = b.epoch }

-- no entry has a later epoch than this one; there is no entry where there is no such epoch
abbrev pub IsUpTo : List Entry → Option ℕ → Type 0
IsUpTo entries None = entries ≡ []
IsUpTo entries (Some epoch) = AreUpTo entries epoch

-- the entries of buffer b
abbrev pub entries_in : List RingSeen → ℕ → List Entry
entries_in rings b = (slice_index_or rings b no_ring).entries

pub record AreKeptRings (ring strand : ℕ) (rings : List RingSeen) (epoch : Option ℕ) : Type 0 where
  pub some : 0 < length rings
  pub few : length rings ≤ MOST_BUFFERS
  pub small : ring ≤ MOST_RING
  pub rooms : (i : ℕ) → i < length rings → (slice_index_or rings i no_ring).room ≡ ring
  -- the current strand's entries are up to the last epoch accepted
  pub latest : IsUpTo (entries_in rings (strand % length rings)) epoch

abbrev pub AreKeptBuffers : Inside → Type 0
AreKeptBuffers b = AreKeptRings b.ring b.strand b.rings.items b.epoch
