-- Serves clauses hits_rise and misses_rise of cache_laws.
-- One more access adds one to its core's hits or misses, and to no other count.
use Rattle.std.proofs.Common.{◌≡◌, ℕ, suc, ◌<◌, Bool, ◌&&◌, List, [], ◌∷◌, ◌++◌, length, ap, ◌∙◌, arith, length-append}
use Rattle.std.specs.Prelude.{not, ◌==◌, if◌then◌else◌}
use Rattle.strand_base.specs.Counting.{any_below, count_below}
use Rattle.strand_base.proofs.BelowBound.{any_agree, count_agree, get_more}
use Rattle.strand_cache.specs.Accesses.{LineAccess, core_in, core_at, line_at}
use Rattle.strand_cache.specs.Hits.{Shape, is_kept, hit}
use Rattle.strand_cache.specs.Totals.{hits_of, misses_of}
use Rattle.strand_cache.proofs.Lists.LongerList.{core_last, line_kept, kept_kept}

core_kept : (xs : List LineAccess) (x : LineAccess) (k : ℕ) → k < length xs → core_at (xs ++ x ∷ []) k ≡ core_at xs k
core_kept xs x k lt = ap core_in (get_more xs x k lt)

pub hit_kept : (shape : Shape) (xs : List LineAccess) (x : LineAccess) (j : ℕ) → j < length xs → hit shape (xs ++ x ∷ []) j ≡ hit shape xs j
hit_kept shape xs x j lt =
    let same : hit shape (xs ++ x ∷ []) j ≡ any_below j (is_kept shape (core_at xs j) (line_at xs j) (xs ++ x ∷ []) j) = cc (core_kept xs x j lt, line_kept xs x j lt) in
    same ∙ any_agree j (is_kept shape (core_at xs j) (line_at xs j) (xs ++ x ∷ []) j) (is_kept shape (core_at xs j) (line_at xs j) xs j) (λ i below. kept_kept xs x shape (core_at xs j) (line_at xs j) j i (omega arith) below)

-- a count over the accesses of a core, with one more access
count_step : (xs : List LineAccess) (x : LineAccess) (core : ℕ) (f h : ℕ → Bool) → ((j : ℕ) → j < length xs → f j ≡ h j) →
    count_below (length (xs ++ x ∷ [])) (λ j. (core_at (xs ++ x ∷ []) j == core) && f j) ≡ (if (x.core == core) && f (length xs) then suc (count_below (length xs) (λ j. (core_at xs j == core) && h j)) else count_below (length xs) (λ j. (core_at xs j == core) && h j))
count_step xs x core f h same =
    let longer : length (xs ++ x ∷ []) ≡ suc (length xs) = omega (arith, length-append xs (x ∷ [])) in
    let rest = count_agree (length xs) (λ j. (core_at (xs ++ x ∷ []) j == core) && f j) (λ j. (core_at xs j == core) && h j) (λ j lt. cc (core_kept xs x j lt, same j lt)) in
    let here : (core_at (xs ++ x ∷ []) (length xs) == core) && f (length xs) ≡ (x.core == core) && f (length xs) = ap (λ c. (c == core) && f (length xs)) (core_last xs x) in
    ap (λ n. count_below n (λ j. (core_at (xs ++ x ∷ []) j == core) && f j)) longer ∙ cc (here, rest)

pub hits_step : (shape : Shape) (core : ℕ) (xs : List LineAccess) (x : LineAccess) →
    hits_of shape core (xs ++ x ∷ []) ≡ (if (x.core == core) && hit shape (xs ++ x ∷ []) (length xs) then suc (hits_of shape core xs) else hits_of shape core xs)
hits_step shape core xs x = count_step xs x core (hit shape (xs ++ x ∷ [])) (hit shape xs) (λ j lt. hit_kept shape xs x j lt)

pub misses_step : (shape : Shape) (core : ℕ) (xs : List LineAccess) (x : LineAccess) →
    misses_of shape core (xs ++ x ∷ []) ≡ (if (x.core == core) && not (hit shape (xs ++ x ∷ []) (length xs)) then suc (misses_of shape core xs) else misses_of shape core xs)
misses_step shape core xs x = count_step xs x core (λ j. not (hit shape (xs ++ x ∷ []) j)) (λ j. not (hit shape xs j)) (λ j lt. ap not (hit_kept shape xs x j lt))
