-- The lists of the lines that the cores hold, and the lists of accesses that they stand for.
use Rattle.std.specs.Prelude.{◌≡◌, ℕ, Bool, false, ◌&&◌, ◌%◌, ◌==◌, ◌<◌, not, List, [], ◌∷◌, ◌++◌, map, reverse, take, length, if◌then◌else◌}
use Rattle.std.specs.List.{filter}
use Rattle.strand_base.specs.Counting.{list_below}
use Rattle.strand_cache.specs.Accesses.{LineAccess, line_at}
use Rattle.strand_cache.specs.Hits.{Shape, is_last, hit}

-- the lines but for one
abbrev pub without_line : ℕ → List ℕ → List ℕ
without_line line lines = filter (λ other. not (line == other)) lines

-- a core's lines of one set after an access: its own line comes to the front and the last past `ways` is dropped, and a
-- line that another core stores to is lost
abbrev pub lines_after : Shape → LineAccess → ℕ → ℕ → List ℕ → List ℕ
lines_after shape x core set lines =
    if not (x.line % shape.sets == set) then lines else
    if x.core == core then take shape.ways (x.line ∷ without_line x.line lines) else
    if x.stores then without_line x.line lines else lines

-- the core's next access to the line, put at the end of the list, would hit
abbrev pub would_hit : Shape → ℕ → ℕ → List LineAccess → Bool
would_hit shape core line xs = hit shape (xs ++ record { core = core; line = line; stores = false } ∷ []) (length xs)

-- access k is the core's last to its line, which is of the set, and the core's next access to that line would hit
abbrev pub is_held : Shape → ℕ → ℕ → List LineAccess → ℕ → Bool
is_held shape core set xs k = is_last core (line_at xs k) xs (length xs) k && (line_at xs k % shape.sets == set) && would_hit shape core (line_at xs k) xs

-- the lines of the set whose next access by the core would hit, in the order of its last accesses, the newest first
abbrev pub lines_held : Shape → ℕ → ℕ → List LineAccess → List ℕ
lines_held shape core set xs = map (line_at xs) (reverse (list_below (length xs) (is_held shape core set xs)))

-- the lists, one for each core and set, stand for the accesses
abbrev pub StandsFor : Shape → ℕ → (ℕ → ℕ → List ℕ) → List LineAccess → Type 0
StandsFor shape cores lines xs = (core set : ℕ) → core < cores → set < shape.sets → lines core set ≡ lines_held shape core set xs
