-- Serves write_run and write_trace: a loop that appends the texts of a list's members, each with its place.
use Rattle.std.proofs.Common.{◌≡◌, ℕ, ◌+◌, ◌<◌, ◌≤◌, arith, length, take, get_or, List, ◌++◌, ap}
use Rattle.std.specs.List.{flat_map, enumerate_from}
use Rattle.std.proofs.lemmas.List.FromFn.{length-enumerate_from, get_or-enumerate_from}
use Rattle.strand_base.specs.Puts.{AppendsFront}
use Rattle.strand_base.proofs.AppendsFront.{loop_more, loop_all, loop_stops}
use Rattle.strand_report.specs.Numbered.{numbered_texts}

-- the texts of the first i members
abbrev pub numbered_so_far : {X : Type 0} → (ℕ → X → List ℕ) → ℕ → List X → List ℕ
numbered_so_far text i xs = flat_map (λ p. text p.0 p.1) (take i (enumerate_from 0 xs))

-- the member at place i
abbrev placed : {X : Type 0} → List X → ℕ → X → ℕ × X
placed xs i d = get_or (enumerate_from 0 xs) i (0, d)

member : {X : Type 0} (text : ℕ → X → List ℕ) (xs : List X) (i : ℕ) (d : X)
    → i < length xs → text (placed xs i d).0 (placed xs i d).1 ≡ text i (get_or xs i d)
member text xs i d lt =
    let from_zero : 0 + i ≡ i = omega arith in
    rw from_zero at (ap (λ (p : ℕ × _). text p.0 p.1) (get_or-enumerate_from 0 xs i (0, d) lt))

index_within : {X : Type 0} (xs : List X) (i : ℕ) → i < length xs → i < length (enumerate_from 0 xs)
index_within xs i lt = rw (length-enumerate_from 0 xs) lt

pub numbered_more : {X : Type 0} (text : ℕ → X → List ℕ) (xs : List X) (i : ℕ) (d : X) (old mid new : List ℕ)
    → i < length xs → mid ≡ old ++ numbered_so_far text i xs → new ≡ mid ++ text i (get_or xs i d)
    → new ≡ old ++ numbered_so_far text (i + 1) xs
numbered_more text xs i d old mid new lt e h =
    loop_more (λ (p : ℕ × _). text p.0 p.1) (enumerate_from 0 xs) i (0, d) old mid new (index_within xs i lt) e
    (rw (member text xs i d lt) h)

pub numbered_stops : {X : Type 0} (text : ℕ → X → List ℕ) (xs : List X) (i : ℕ) (d : X) (old mid new : List ℕ)
    → i < length xs → mid ≡ old ++ numbered_so_far text i xs → AppendsFront (text i (get_or xs i d)) mid new
    → AppendsFront (numbered_texts text xs) old new
numbered_stops text xs i d old mid new lt e h =
    loop_stops (λ (p : ℕ × _). text p.0 p.1) (enumerate_from 0 xs) i (0, d) old mid new (index_within xs i lt) e
    (rw (member text xs i d lt) h)

pub numbered_all : {X : Type 0} (text : ℕ → X → List ℕ) (xs : List X) (n : ℕ) (old new : List ℕ)
    → length xs ≤ n → new ≡ old ++ numbered_so_far text n xs → new ≡ old ++ numbered_texts text xs
numbered_all text xs n old new le e =
    loop_all (λ (p : ℕ × _). text p.0 p.1) (enumerate_from 0 xs) n old new
    (rw (length-enumerate_from 0 xs) le) e
