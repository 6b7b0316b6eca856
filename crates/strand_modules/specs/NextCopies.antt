-- What an accepted store makes of a migration: the next words are copied.
use Rattle.std.specs.Prelude.{◌≡◌, ◌⊎◌, ℕ, ◌+◌, ◌-◌, ◌<◌, min, cond, nat_le, List, slice_set, slice_index, Some, None, MatchOption}
use Rattle.strand_base.specs.Counts.{Rose, counted, next}
use Rattle.strand_modules.specs.Objects.{MigrationSeen}

-- What copying goes by and changes. The objects are those of the modules, in order, and then the spare.
pub record CopyingSeen : Type 0 where
  -- how many words each module has, and how many modules there are
  pub module_size : ℕ
  pub modules : ℕ
  pub migration : MigrationSeen
  -- each object's count of faults, and how many loads and stores it was asked for
  pub faults : List ℕ
  pub calls : List ℕ

-- so many calls more of object h
abbrev pub more_calls : ℕ → ℕ → List ℕ → List ℕ
more_calls h n calls = slice_set calls h (counted n (slice_index calls h))

abbrev pub with_call : ℕ → List ℕ → List ℕ
with_call h calls = more_calls h 1 calls

-- how many words are copied: eight, or all that are left
abbrev pub next_copies : CopyingSeen → ℕ
next_copies c = min 8 (c.module_size - c.migration.copied)

-- so many loads more of the old object of module k, and so many stores more of the spare
abbrev pub copying_calls : CopyingSeen → ℕ → ℕ → ℕ → List ℕ
copying_calls c k loads stores = more_calls c.modules stores (more_calls k loads c.calls)

-- two objects change places
abbrev pub swapped : ℕ → ℕ → List ℕ → List ℕ
swapped i j counts = slice_set (slice_set counts i (slice_index counts j)) j (slice_index counts i)

-- Once all words are copied the spare takes the place of the old object, which becomes the spare, and nothing is migrating.
abbrev pub moved : CopyingSeen → ℕ → List ℕ → List ℕ
moved c k counts = cond (nat_le c.module_size (c.migration.copied + next_copies c)) (swapped k c.modules counts) counts

abbrev pub moved_on : CopyingSeen → ℕ → MigrationSeen
moved_on c k = record {
  running = cond (nat_le c.module_size (c.migration.copied + next_copies c)) None (Some k);
  copied = c.migration.copied + next_copies c;
  missed = c.migration.missed;
}

-- The next words of module k were copied, each by a load and a store.
pub record CopiesAll (old new : CopyingSeen) (k : ℕ) : Type 0 where
  pub migration : new.migration ≡ moved_on old k
  pub calls : new.calls ≡ moved old k (copying_calls old k (next_copies old) (next_copies old))
  pub faults : new.faults ≡ moved old k old.faults

-- The copying ended at a call of object h, whose count of faults rose.
pub record MissesAt (old new : CopyingSeen) (k h loads stores : ℕ) : Type 0 where
  pub rose : Rose (slice_index old.faults h) (slice_index new.faults h)
  pub others : new.faults ≡ slice_set old.faults h (slice_index new.faults h)
  pub calls : new.calls ≡ copying_calls old k loads stores

-- Fewer words were copied, n of them: the load of the next one failed, or its store. That is counted, and nothing else.
pub record CopyMisses (old new : CopyingSeen) (k : ℕ) : Type 0 where
  pub n : ℕ
  pub few : n < next_copies old
  pub migration : new.migration ≡ record old.migration { copied = old.migration.copied + n; missed = next old.migration.missed }
  pub cause : MissesAt old new k k (n + 1) n ⊎ MissesAt old new k old.modules (n + 1) (n + 1)

abbrev pub CopiesNext : CopyingSeen → CopyingSeen → Type 0
CopiesNext old new = MatchOption old.migration.running (new ≡ old) (λ k. CopiesAll old new k ⊎ CopyMisses old new k)
