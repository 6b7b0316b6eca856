-- Accesses as they are noted, and what an access is made to wait for by those noted before it.
use Rattle.std.specs.Prelude.{ℕ, max, Bool, ◌&&◌, ◌||◌, not, ◌==◌, List, [], ◌∷◌, slice_index, if◌then◌else◌}

-- an access: its core, the number of its strand, its word, and whether it is a store
pub record Access : Type 0 where
  pub core : ℕ
  pub strand : ℕ
  pub word : ℕ
  pub write : Bool

abbrev pub access : ℕ → ℕ → ℕ → Bool → Access
access core strand word write = record { core = core; strand = strand; word = word; write = write }

-- an access that was noted, how many persists its core had made then, its own counted, and its wait
pub record Noted : Type 0 where
  pub access : Access
  pub made : ℕ
  pub wait : List ℕ

abbrev pub noted_as : Access → ℕ → List ℕ → Noted
noted_as access made wait = record { access = access; made = made; wait = wait }

-- accesses a and b conflict: same word, and one of them stores
abbrev pub conflicts_with : Access → Access → Bool
conflicts_with a b = (a.word == b.word) && (a.write || b.write)

-- and they are of two strands
abbrev pub opposes : Access → Access → Bool
opposes a b = conflicts_with a b && not ((a.core == b.core) && (a.strand == b.strand))

-- the wait for core c of a noted access, where it conflicts with access b
abbrev pub wait_part : ℕ → Access → Noted → ℕ
wait_part c b n = if conflicts_with n.access b then slice_index n.wait c else 0

-- the persists that core c had made at a noted access, where it is c's and opposes access b
abbrev pub made_part : ℕ → Access → Noted → ℕ
made_part c b n = if (n.access.core == c) && opposes n.access b then n.made else 0

-- what a noted access makes access b wait for, of the persists of core c
abbrev pub part : ℕ → Access → Noted → ℕ
part c b n = max (wait_part c b n) (made_part c b n)

-- the greatest of these over the noted accesses, 0 where there is none
abbrev pub covered : ℕ → Access → List Noted → ℕ
covered c b [] = 0
covered c b (n ∷ ns) = max (part c b n) (covered c b ns)
