-- Texts of a list's members, each with its place.
use Rattle.std.specs.Prelude.{ℕ, List}
use Rattle.std.specs.List.{flat_map, enumerate_from}

-- the texts of the members one after the other, places from 0
abbrev pub numbered_texts : {X : Type 0} → (ℕ → X → List ℕ) → List X → List ℕ
numbered_texts text xs = flat_map (λ p. text p.0 p.1) (enumerate_from 0 xs)
