-- The cache rule: when an access hits.
use Rattle.std.specs.Prelude.{ℕ, suc, Bool, ◌&&◌, ◌%◌, ◌==◌, not, nat_lt, nat_le, List}
use Rattle.strand_base.specs.Counting.{any_below, count_below}
use Rattle.strand_cache.specs.Accesses.{LineAccess, touches, takes, access_is, core_at, line_at}

-- the shape of each core's cache: so many sets of so many lines
pub record Shape : Type 0 where
  pub sets : ℕ
  pub ways : ℕ

abbrev pub shape_of : ℕ → ℕ → Shape
shape_of sets ways = record { sets = sets; ways = ways }

-- both lines belong to one set
abbrev pub same_set : Shape → ℕ → ℕ → Bool
same_set shape line other = line % shape.sets == other % shape.sets

-- access i is the core's last access to the line before moment n
abbrev pub is_last : ℕ → ℕ → List LineAccess → ℕ → ℕ → Bool
is_last core line xs n i = access_is (touches core line) xs i && not (any_below n (λ k. nat_lt i k && access_is (touches core line) xs k))

-- another core stored to the line after access i and before moment n
abbrev pub is_taken_away : ℕ → ℕ → List LineAccess → ℕ → ℕ → Bool
is_taken_away core line xs n i = any_below n (λ k. nat_lt i k && access_is (takes core line) xs k)

-- access i is the core's last access to the line before moment n, and no other core stored to the line since
abbrev pub is_intact : ℕ → ℕ → List LineAccess → ℕ → ℕ → Bool
is_intact core line xs n i = is_last core line xs n i && not (is_taken_away core line xs n i)

-- how many other lines of the line's set the core accessed after i up to s, with no store to them by another core since
-- its last access of them up to s: each is counted at that last access
abbrev pub other_lines : Shape → ℕ → ℕ → List LineAccess → ℕ → ℕ → ℕ
other_lines shape core line xs i s =
    count_below (suc s) (λ k. nat_lt i k && same_set shape (line_at xs k) line && not (line_at xs k == line) && is_intact core (line_at xs k) xs (suc s) k)

-- at some access s after i and before moment n, `ways` other lines of the set were more recent
abbrev pub is_pushed_out : Shape → ℕ → ℕ → List LineAccess → ℕ → ℕ → Bool
is_pushed_out shape core line xs n i = any_below n (λ s. nat_lt i s && nat_le shape.ways (other_lines shape core line xs i s))

-- the line that the core accessed at i is in its cache at moment n
abbrev pub is_kept : Shape → ℕ → ℕ → List LineAccess → ℕ → ℕ → Bool
is_kept shape core line xs n i = is_intact core line xs n i && not (is_pushed_out shape core line xs n i)

-- access j hits
abbrev pub hit : Shape → List LineAccess → ℕ → Bool
hit shape xs j = any_below j (is_kept shape (core_at xs j) (line_at xs j) xs j)
