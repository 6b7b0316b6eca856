-- Serves clauses hits, steps, hits_rise and misses_rise of cache_laws.
-- What is said of the accesses of a list stays so when one more comes at its end.
use Rattle.std.proofs.Common.{◌≡◌, ℕ, suc, ◌<◌, ◌≤◌, Bool, ◌&&◌, List, [], ◌∷◌, ◌++◌, length, ap, arith}
use Rattle.std.specs.Prelude.{not, nat_lt, nat_le, ◌==◌}
use Rattle.strand_base.proofs.BelowBound.{any_agree, count_agree, get_more, get_last}
use Rattle.strand_cache.specs.Accesses.{LineAccess, touches, takes, passes, core_in, line_in, access_is, core_at, line_at}
use Rattle.strand_cache.specs.Hits.{Shape, same_set, is_last, is_taken_away, is_intact, other_lines, is_pushed_out, is_kept}

module _ (xs : List LineAccess) (x : LineAccess) where
  pub access_kept : (test : LineAccess → Bool) (k : ℕ) → k < length xs → access_is test (xs ++ x ∷ []) k ≡ access_is test xs k
  access_kept test k lt = ap (passes test) (get_more xs x k lt)

  pub access_last : (test : LineAccess → Bool) → access_is test (xs ++ x ∷ []) (length xs) ≡ test x
  access_last test = ap (passes test) (get_last xs x)

  pub line_kept : (k : ℕ) → k < length xs → line_at (xs ++ x ∷ []) k ≡ line_at xs k
  line_kept k lt = ap line_in (get_more xs x k lt)

  pub line_last : line_at (xs ++ x ∷ []) (length xs) ≡ x.line
  line_last = ap line_in (get_last xs x)

  pub core_last : core_at (xs ++ x ∷ []) (length xs) ≡ x.core
  core_last = ap core_in (get_last xs x)

  pub last_kept : (core line n i : ℕ) → n ≤ length xs → i < n → is_last core line (xs ++ x ∷ []) n i ≡ is_last core line xs n i
  last_kept core line n i le lt =
      let here = access_kept (touches core line) i (omega arith) in
      let later = any_agree n (λ k. nat_lt i k && access_is (touches core line) (xs ++ x ∷ []) k) (λ k. nat_lt i k && access_is (touches core line) xs k) (λ k below. ap (λ b. nat_lt i k && b) (access_kept (touches core line) k (omega arith))) in
      cc (here, later)

  pub taken_kept : (core line n i : ℕ) → n ≤ length xs → is_taken_away core line (xs ++ x ∷ []) n i ≡ is_taken_away core line xs n i
  taken_kept core line n i le = any_agree n (λ k. nat_lt i k && access_is (takes core line) (xs ++ x ∷ []) k) (λ k. nat_lt i k && access_is (takes core line) xs k) (λ k below. ap (λ b. nat_lt i k && b) (access_kept (takes core line) k (omega arith)))

  pub intact_kept : (core line n i : ℕ) → n ≤ length xs → i < n → is_intact core line (xs ++ x ∷ []) n i ≡ is_intact core line xs n i
  intact_kept core line n i le lt = cc (last_kept core line n i le lt, taken_kept core line n i le)

  -- access k is to a line that counts beside the line accessed at i
  pub others_kept : (shape : Shape) (core line i s : ℕ) → s < length xs → other_lines shape core line (xs ++ x ∷ []) i s ≡ other_lines shape core line xs i s
  others_kept shape core line i s lt =
      count_agree (suc s)
      (λ k. nat_lt i k && same_set shape (line_at (xs ++ x ∷ []) k) line && not (line_at (xs ++ x ∷ []) k == line) && is_intact core (line_at (xs ++ x ∷ []) k) (xs ++ x ∷ []) (suc s) k)
      (λ k. nat_lt i k && same_set shape (line_at xs k) line && not (line_at xs k == line) && is_intact core (line_at xs k) xs (suc s) k)
      (λ k below. cc (line_kept k (omega arith), intact_kept core (line_at xs k) (suc s) k (omega arith) below))

  pub pushed_kept : (shape : Shape) (core line n i : ℕ) → n ≤ length xs → is_pushed_out shape core line (xs ++ x ∷ []) n i ≡ is_pushed_out shape core line xs n i
  pushed_kept shape core line n i le =
      any_agree n (λ s. nat_lt i s && nat_le shape.ways (other_lines shape core line (xs ++ x ∷ []) i s)) (λ s. nat_lt i s && nat_le shape.ways (other_lines shape core line xs i s)) (λ s below. ap (λ c. nat_lt i s && nat_le shape.ways c) (others_kept shape core line i s (omega arith)))

  pub kept_kept : (shape : Shape) (core line n i : ℕ) → n ≤ length xs → i < n → is_kept shape core line (xs ++ x ∷ []) n i ≡ is_kept shape core line xs n i
  kept_kept shape core line n i le lt = cc (intact_kept core line n i le lt, pushed_kept shape core line n i le)
