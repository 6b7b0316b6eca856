-- Serves no clause: worked examples of the cache rule, with two ways and with one.
use Rattle.std.proofs.Common.{◌≡◌, true, false, List, [], ◌∷◌, refl}
use Rattle.strand_cache.specs.Accesses.{LineAccess}
use Rattle.strand_cache.specs.Hits.{shape_of, hit}
use Rattle.strand_cache.specs.Lists.{lines_held}
use Rattle.std.specs.Prelude.{ℕ, Bool}

abbrev loads : ℕ → ℕ → LineAccess
loads core line = record { core = core; line = line; stores = false }

abbrev stores : ℕ → ℕ → LineAccess
stores core line = record { core = core; line = line; stores = true }

-- whether access j of the list hits with two ways, and with one
abbrev both : List LineAccess → ℕ → List Bool
both xs j = hit (shape_of 1 2) xs j ∷ hit (shape_of 1 1) xs j ∷ []

-- two ways hold both lines; with one the second line pushes the first out
pushed : both (loads 0 1 ∷ loads 0 2 ∷ loads 0 1 ∷ []) 2 ≡ true ∷ false ∷ []
pushed = refl

-- a store by another core takes the line
taken : both (loads 0 1 ∷ loads 0 2 ∷ stores 1 1 ∷ loads 0 1 ∷ []) 3 ≡ false ∷ false ∷ []
taken = refl

-- a line that was taken makes room: the third line fits beside the first
room : both (loads 0 1 ∷ loads 0 2 ∷ stores 1 2 ∷ loads 0 3 ∷ loads 0 1 ∷ []) 4 ≡ true ∷ false ∷ []
room = refl

-- pushed out stays pushed out, though the newer lines are taken afterwards
stays_out : both (loads 0 1 ∷ loads 0 2 ∷ loads 0 3 ∷ stores 1 2 ∷ stores 1 3 ∷ loads 0 1 ∷ []) 5 ≡ false ∷ false ∷ []
stays_out = refl

-- a core that stores to its own line keeps it, and a load by another core takes nothing
kept : lines_held (shape_of 1 2) 0 0 (loads 0 1 ∷ stores 0 2 ∷ loads 1 2 ∷ stores 0 1 ∷ []) ≡ 1 ∷ 2 ∷ []
kept = refl

-- a store, a foreign load that misses, a foreign store that hits, and a load that misses
abbrev shared : List LineAccess
shared = stores 0 9 ∷ loads 1 9 ∷ stores 1 9 ∷ loads 0 9 ∷ []

third_alone : both shared 0 ∷ both shared 1 ∷ both shared 2 ∷ both shared 3 ∷ [] ≡ (false ∷ false ∷ []) ∷ (false ∷ false ∷ []) ∷ (true ∷ true ∷ []) ∷ (false ∷ false ∷ []) ∷ []
third_alone = refl
