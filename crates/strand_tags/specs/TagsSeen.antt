-- The tags as contracts see them, what they answer, and the lists of accesses that they stand for.
use Rattle.std.specs.Prelude.{◌≡◌, ℕ, ◌+◌, ◌-◌, ◌*◌, ◌/◌, ◌^◌, ◌<◌, ◌≤◌, max, nat_lt, ◌==◌, List, length, slice_index, slice_index_or, slice_set, if◌then◌else◌}
use Rattle.strand_base.specs.declared.limits.TheConstants.{MOST_MEMORY, CORE_ROOM}
use Rattle.strand_base.specs.declared.regions.TheConstants.{VOLATILE_BASE, PERSISTENT_BASE}
use Rattle.strand_exec.specs.Core.{Extents}
use Rattle.strand_exec.specs.Plan.{IsWord}
use Rattle.strand_tags.specs.declared.count_vector.CountVector.{CountVector}
use Rattle.strand_tags.specs.declared.word_tag.WordTag.{WordTag}
use Rattle.strand_tags.specs.Access.{Access, Noted, covered}
use Rattle.strand_tags.specs.Greater.{greater, no_counts, vector}
use Rattle.strand_tags.specs.WordTags.{no_tag, whole, without_strand, tag_after}

pub record TagsSeen : Type 0 where
  pub extents : Extents
  -- per core, the greatest strand number and the greatest number of persists that were noted
  pub strands : List ℕ
  pub made : List ℕ
  -- per word and core, what is kept of the stores, and of the loads and stores together
  pub stores : List WordTag
  pub accesses : List WordTag
  -- per word, the greatest waits of the stores, and of the loads and stores together
  pub store_waits : List CountVector
  pub access_waits : List CountVector

-- the place of a data word among all words, the volatile ones first
abbrev pub word_place : Extents → ℕ → ℕ
word_place extents word = if nat_lt word PERSISTENT_BASE then (word - VOLATILE_BASE) / 8 else extents.volatile + (word - PERSISTENT_BASE) / 8

-- the place of a word's and a core's tag
abbrev pub slot : TagsSeen → ℕ → ℕ → ℕ
slot tags core word = word_place tags.extents word * length tags.strands + core

abbrev pub tag_in : List WordTag → TagsSeen → ℕ → ℕ → WordTag
tag_in word_tags tags core word = slice_index_or word_tags (slot tags core word) no_tag

-- the tag of the accesses of core c that conflict with access b
abbrev pub conflicting : TagsSeen → Access → ℕ → WordTag
conflicting tags b c = if b.write then tag_in tags.accesses tags c b.word else tag_in tags.stores tags c b.word

-- the persists that a tag of core c has for access b: those made at accesses of another strand than b's
abbrev pub made_elsewhere : WordTag → Access → ℕ → ℕ
made_elsewhere m b c = if c == b.core then without_strand m b.strand else whole m

-- the greatest number of persists that core c had made at an access that opposes access b
abbrev pub made_opposing : TagsSeen → Access → ℕ → ℕ
made_opposing tags b c = if nat_lt c (length tags.strands) then made_elsewhere (conflicting tags b c) b c else 0

-- the greatest waits that are kept of a word
abbrev pub wait_in : List CountVector → TagsSeen → ℕ → List ℕ
wait_in waits tags word = (slice_index_or waits (word_place tags.extents word) no_counts).counts

-- those of the accesses that conflict with access b
abbrev pub conflicting_wait : TagsSeen → Access → List ℕ
conflicting_wait tags b = if b.write then wait_in tags.access_waits tags b.word else wait_in tags.store_waits tags b.word

-- what the tags answer for core c
abbrev pub answer : TagsSeen → Access → ℕ → ℕ
answer tags b c = max (slice_index (conflicting_wait tags b) c) (made_opposing tags b c)

-- the tags can be asked of the access: its core and its word are there, and no later strand of its core was noted
pub record CanAsk (tags : TagsSeen) (b : Access) : Type 0 where
  pub core : b.core < length tags.strands
  pub word : IsWord tags.extents b.word
  pub strand : slice_index tags.strands b.core ≤ b.strand
  pub small : b.strand < 2 ^ 32

-- The tags stand for a list of accesses where each of the eight answers is the maximum over it.
abbrev pub StandFor : TagsSeen → List Noted → Type 0
StandFor tags ns = (b : Access) → CanAsk tags b → (c : ℕ) → c < CORE_ROOM → answer tags b c ≡ covered c b ns

-- the tags with the access of one core noted
abbrev pub with_access : List WordTag → TagsSeen → Noted → List WordTag
with_access word_tags tags n = slice_set word_tags (slot tags n.access.core n.access.word) (tag_after (tag_in word_tags tags n.access.core n.access.word) n.access.strand n.made)

-- the waits with those of one access more
abbrev pub with_wait : List CountVector → TagsSeen → Noted → List CountVector
with_wait waits tags n = slice_set waits (word_place tags.extents n.access.word) (vector (greater (wait_in waits tags n.access.word) n.wait))

-- the tags with one access more
abbrev pub noted : TagsSeen → Noted → TagsSeen
noted tags n = record {
  extents = tags.extents;
  strands = slice_set tags.strands n.access.core n.access.strand;
  made = slice_set tags.made n.access.core n.made;
  stores = if n.access.write then with_access tags.stores tags n else tags.stores;
  accesses = with_access tags.accesses tags n;
  store_waits = if n.access.write then with_wait tags.store_waits tags n else tags.store_waits;
  access_waits = with_wait tags.access_waits tags n;
}

-- no tag has a later strand than was noted of its core
abbrev pub AreBehind : List WordTag → List ℕ → Type 0
AreBehind word_tags strands = (place core : ℕ) → core < length strands → (slice_index_or word_tags (place * length strands + core) no_tag).strand ≤ slice_index strands core

-- what the tags keep
pub record AreKept (tags : TagsSeen) : Type 0 where
  pub few : length tags.strands ≤ CORE_ROOM
  pub volatile : tags.extents.volatile ≤ MOST_MEMORY
  pub persistent : tags.extents.persistent ≤ MOST_MEMORY
  pub made : length tags.made ≡ length tags.strands
  pub stores : length tags.stores ≡ (tags.extents.volatile + tags.extents.persistent) * length tags.strands
  pub accesses : length tags.accesses ≡ (tags.extents.volatile + tags.extents.persistent) * length tags.strands
  pub store_waits : length tags.store_waits ≡ tags.extents.volatile + tags.extents.persistent
  pub access_waits : length tags.access_waits ≡ tags.extents.volatile + tags.extents.persistent
  pub stores_behind : AreBehind tags.stores tags.strands
  pub accesses_behind : AreBehind tags.accesses tags.strands
