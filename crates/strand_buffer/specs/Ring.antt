-- What the list of a buffer keeps.
use Rattle.std.specs.Prelude.{◌≡◌, ℕ, ◌<◌, ◌≤◌, true, List, length}
use Rattle.strand_base.specs.declared.limits.TheConstants.{MOST_RING}
use Rattle.strand_buffer.specs.declared.entry.Entry.{Entry}
use Rattle.strand_buffer.specs.Entries.{entry_is, is_open, epoch_at}
use Rattle.strand_buffer.specs.Links.{AreLinked}

-- The list begins with an entry that isn't durable, and the epochs never fall along it.
pub record IsRing (entries : List Entry) : Type 0 where
  pub first : 0 < length entries → entry_is is_open entries 0 ≡ true
  pub ascending : (h i : ℕ) → h ≤ i → i < length entries → epoch_at entries h ≤ epoch_at entries i

-- A ring as contracts see it: its entries, and how many it may have.
pub record RingSeen : Type 0 where
  pub entries : List Entry
  pub room : ℕ

-- each entry's epoch is at most this one
abbrev pub AreUpTo : List Entry → ℕ → Type 0
AreUpTo entries epoch = (i : ℕ) → i < length entries → epoch_at entries i ≤ epoch

-- what a ring keeps of its fields
pub record KeptRing (entries : List Entry) (links : List ℕ) (room : ℕ) : Type 0 where
  pub within : length entries ≤ room
  pub small : room ≤ MOST_RING
  pub linked : AreLinked entries links
  pub ring : IsRing entries
