-- Serves clauses steps and counted of cache_laws.
-- What one more access at the end of a list changes of the lines that a core holds.
use Rattle.std.proofs.Common.{◌≡◌, ℕ, suc, ◌<◌, Bool, true, false, ◌&&◌, ◌||◌, List, [], ◌∷◌, ◌++◌, length, refl, ap, ◌∙◌, arith}
use Rattle.std.specs.Prelude.{not, nat_lt, nat_le, ◌==◌}
use Rattle.std.proofs.lemmas.Bool.{lt-ltb}
use Rattle.strand_base.specs.Counting.{any_below}
use Rattle.strand_base.proofs.BelowBound.{any_agree}
use Rattle.strand_cache.specs.Accesses.{LineAccess, touches, takes, access_is, line_at}
use Rattle.strand_cache.specs.Hits.{Shape, same_set, is_last, is_taken_away, is_intact, other_lines, is_pushed_out, is_kept}
use Rattle.strand_cache.proofs.Lists.Newest.{nothing_after}
use Rattle.strand_cache.proofs.Lists.LongerList.{access_kept, access_last, line_kept, line_last, pushed_kept}

-- access k counts beside the line that was accessed at i
abbrev pub is_recent : Shape → ℕ → ℕ → List LineAccess → ℕ → ℕ → ℕ → Bool
is_recent shape core line xs n i k = nat_lt i k && same_set shape (line_at xs k) line && not (line_at xs k == line) && is_intact core (line_at xs k) xs n k

-- the access touches the line or takes it
abbrev pub breaks : ℕ → ℕ → LineAccess → Bool
breaks core line x = touches core line x || takes core line x

and_not_or : (a b t : Bool) → a && not (t || b) ≡ (a && not b) && not t
and_not_or false b t = refl
and_not_or true true true = refl
and_not_or true true false = refl
and_not_or true false true = refl
and_not_or true false false = refl

regroup : (a b t u : Bool) → (a && not t) && not (u || b) ≡ (a && not b) && not (t || u)
regroup false b t u = refl
regroup true true true u = refl
regroup true false true u = refl
regroup true b false u = and_not_or true b u

and_none : (c : Bool) → c && false ≡ false
and_none true = refl
and_none false = refl

and_true : (c : Bool) → c && true ≡ c
and_true true = refl
and_true false = refl

and_assoc : (a b c : Bool) → a && (b && c) ≡ a && b && c
and_assoc true b c = refl
and_assoc false b c = refl

regroup_out : (a b c p : Bool) → (a && b) && not (c || p) ≡ (a && not p) && b && not c
regroup_out false b c p = refl
regroup_out true b true true = and_none b
regroup_out true b true false = refl
regroup_out true b false true = and_none b
regroup_out true b false false = refl

module _ (xs : List LineAccess) (x : LineAccess) where
  -- a test of the accesses after i, with one more access
  after_step : (test : LineAccess → Bool) (i : ℕ) → i < length xs →
      any_below (suc (length xs)) (λ k. nat_lt i k && access_is test (xs ++ x ∷ []) k) ≡ (test x || any_below (length xs) (λ k. nat_lt i k && access_is test xs k))
  after_step test i lt =
      let here : nat_lt i (length xs) && access_is test (xs ++ x ∷ []) (length xs) ≡ test x = rw (lt-ltb i (length xs) lt) (access_last xs x test) in
      let rest = any_agree (length xs) (λ k. nat_lt i k && access_is test (xs ++ x ∷ []) k) (λ k. nat_lt i k && access_is test xs k) (λ k below. ap (λ b. nat_lt i k && b) (access_kept xs x test k below)) in
      cc (here, rest)

  pub last_step : (core line i : ℕ) → i < length xs → is_last core line (xs ++ x ∷ []) (suc (length xs)) i ≡ (is_last core line xs (length xs) i && not (touches core line x))
  last_step core line i lt =
      let here = access_kept xs x (touches core line) i lt in
      let later = after_step (touches core line) i lt in
      let same : is_last core line (xs ++ x ∷ []) (suc (length xs)) i ≡ (access_is (touches core line) xs i && not (touches core line x || any_below (length xs) (λ k. nat_lt i k && access_is (touches core line) xs k))) = cc (here, later) in
      same ∙ and_not_or (access_is (touches core line) xs i) (any_below (length xs) (λ k. nat_lt i k && access_is (touches core line) xs k)) (touches core line x)

  pub intact_step : (core line i : ℕ) → i < length xs → is_intact core line (xs ++ x ∷ []) (suc (length xs)) i ≡ (is_intact core line xs (length xs) i && not (breaks core line x))
  intact_step core line i lt =
      let same : is_intact core line (xs ++ x ∷ []) (suc (length xs)) i ≡ ((is_last core line xs (length xs) i && not (touches core line x)) && not (takes core line x || is_taken_away core line xs (length xs) i)) = cc (last_step core line i lt, after_step (takes core line) i lt) in
      same ∙ regroup (is_last core line xs (length xs) i) (is_taken_away core line xs (length xs) i) (touches core line x) (takes core line x)

  pub intact_last : (core line : ℕ) → is_intact core line (xs ++ x ∷ []) (suc (length xs)) (length xs) ≡ touches core line x
  intact_last core line =
      let here = access_last xs x (touches core line) in
      let later = nothing_after (suc (length xs)) (length xs) (access_is (touches core line) (xs ++ x ∷ [])) (omega arith) in
      let taken = nothing_after (suc (length xs)) (length xs) (access_is (takes core line) (xs ++ x ∷ [])) (omega arith) in
      let same : is_intact core line (xs ++ x ∷ []) (suc (length xs)) (length xs) ≡ ((touches core line x && not false) && not false) = cc (here, later, taken) in
      same ∙ and_true (touches core line x && true) ∙ and_true (touches core line x)

  pub recent_step : (shape : Shape) (core line i k : ℕ) → k < length xs → is_recent shape core line (xs ++ x ∷ []) (suc (length xs)) i k ≡ (is_recent shape core line xs (length xs) i k && not (breaks core (line_at xs k) x))
  recent_step shape core line i k lt =
      let same : is_recent shape core line (xs ++ x ∷ []) (suc (length xs)) i k ≡ (nat_lt i k && same_set shape (line_at xs k) line && not (line_at xs k == line) && (is_intact core (line_at xs k) xs (length xs) k && not (breaks core (line_at xs k) x))) = cc (line_kept xs x k lt, intact_step core (line_at xs k) k lt) in
      same ∙ and_assoc (nat_lt i k && same_set shape (line_at xs k) line && not (line_at xs k == line)) (is_intact core (line_at xs k) xs (length xs) k) (not (breaks core (line_at xs k) x))

  pub recent_last : (shape : Shape) (core line i : ℕ) → i < length xs → is_recent shape core line (xs ++ x ∷ []) (suc (length xs)) i (length xs) ≡ (same_set shape x.line line && not (x.line == line) && touches core x.line x)
  recent_last shape core line i lt =
      let same : is_recent shape core line (xs ++ x ∷ []) (suc (length xs)) i (length xs) ≡ (nat_lt i (length xs) && same_set shape x.line line && not (x.line == line) && touches core x.line x) = cc (line_last xs x, intact_last core x.line) in
      same ∙ rw (lt-ltb i (length xs) lt) refl

  pub kept_step : (shape : Shape) (core line i : ℕ) → i < length xs →
      is_kept shape core line (xs ++ x ∷ []) (suc (length xs)) i ≡ (is_kept shape core line xs (length xs) i && not (breaks core line x) && not (nat_le shape.ways (other_lines shape core line (xs ++ x ∷ []) i (length xs))))
  kept_step shape core line i lt =
      let out : is_pushed_out shape core line (xs ++ x ∷ []) (suc (length xs)) i ≡ (nat_le shape.ways (other_lines shape core line (xs ++ x ∷ []) i (length xs)) || is_pushed_out shape core line xs (length xs) i) =
      ap (λ b. (nat_lt i (length xs) && nat_le shape.ways (other_lines shape core line (xs ++ x ∷ []) i (length xs))) || b) (pushed_kept xs x shape core line (length xs) i (omega arith)) ∙ rw (lt-ltb i (length xs) lt) refl in
      let same : is_kept shape core line (xs ++ x ∷ []) (suc (length xs)) i ≡ ((is_intact core line xs (length xs) i && not (breaks core line x)) && not (nat_le shape.ways (other_lines shape core line (xs ++ x ∷ []) i (length xs)) || is_pushed_out shape core line xs (length xs) i)) = cc (intact_step core line i lt, out) in
      same ∙ regroup_out (is_intact core line xs (length xs) i) (not (breaks core line x)) (nat_le shape.ways (other_lines shape core line (xs ++ x ∷ []) i (length xs))) (is_pushed_out shape core line xs (length xs) i)

  pub kept_last : (shape : Shape) (core line : ℕ) → is_kept shape core line (xs ++ x ∷ []) (suc (length xs)) (length xs) ≡ touches core line x
  kept_last shape core line =
      let out = nothing_after (suc (length xs)) (length xs) (λ s. nat_le shape.ways (other_lines shape core line (xs ++ x ∷ []) (length xs) s)) (omega arith) in
      let same : is_kept shape core line (xs ++ x ∷ []) (suc (length xs)) (length xs) ≡ (touches core line x && not false) = cc (out, intact_last core line) in
      same ∙ and_true (touches core line x)
