-- Serves clauses hits, steps and counted of cache_laws.
-- The lines that a core holds are the most recent ones: a line accessed later and not taken since is held too.
use Rattle.std.proofs.Common.{◌≡◌, ℕ, zero, suc, ◌<◌, ◌≤◌, Bool, true, false, ◌&&◌, inl, inr, List, [], ◌∷◌, ◌++◌, length, refl, sym, ap, ◌∙◌, subst, arith}
use Rattle.std.specs.Prelude.{not, nat_lt, nat_le, ◌==◌, ◌%◌, Option, Some, None, map}
use Rattle.std.proofs.lemmas.Bool.{lt-ltb, le-ltb, ltb-true, leb-true, leb-false, eqb-true, eq-eqb, ne_eqb, and_parts, and_from, and_cases, not-true, not_from_false, false_from_ne_true, cases_eq, cases_order, false≢true}
use Rattle.strand_base.specs.Counting.{any_below, count_below}
use Rattle.strand_base.proofs.BelowBound.{any_agree, any_true, any_false, any_from, count_flat}
use Rattle.strand_cache.specs.Accesses.{LineAccess, touches, passes, line_in, access_is, line_at}
use Rattle.strand_cache.specs.Hits.{Shape, same_set, is_last, is_taken_away, is_intact, other_lines, is_pushed_out, is_kept}
use Rattle.strand_cache.specs.Lists.{would_hit, is_held, lines_held}
use Rattle.strand_cache.proofs.Lists.Newest.{newest_below, newest_reverse, newest_agree, count_implied, any_none, same_tests}
use Rattle.strand_cache.proofs.Lists.LongerList.{core_last, line_last, kept_kept}
use Rattle.strand_cache.proofs.Lists.OneMore.{is_recent}

pub own_line : (core line : ℕ) (o : Option LineAccess) → passes (touches core line) o ≡ true → line_in o ≡ line
own_line core line None h = absurd (false≢true h)
own_line core line (Some x) h = let parts = and_parts (x.core == core) (x.line == line) h in eqb-true x.line line parts.1

module _ (shape : Shape) (core : ℕ) (xs : List LineAccess) where
  pub kept_intact : (line n i : ℕ) → is_kept shape core line xs n i ≡ true → is_intact core line xs n i ≡ true
  kept_intact line n i h = let parts = and_parts (is_intact core line xs n i) (not (is_pushed_out shape core line xs n i)) h in parts.0

  pub intact_last_one : (line n i : ℕ) → is_intact core line xs n i ≡ true → is_last core line xs n i ≡ true
  intact_last_one line n i h = let parts = and_parts (is_last core line xs n i) (not (is_taken_away core line xs n i)) h in parts.0

  pub last_touches : (line n i : ℕ) → is_last core line xs n i ≡ true → access_is (touches core line) xs i ≡ true
  last_touches line n i h = let parts = and_parts (access_is (touches core line) xs i) (not (any_below n (λ k. nat_lt i k && access_is (touches core line) xs k))) h in parts.0

  -- after its last access the core does not access the line
  pub not_again : (line n i k : ℕ) → is_last core line xs n i ≡ true → i < k → k < n → access_is (touches core line) xs k ≡ true → ⊥
  not_again line n i k h after below touch =
      let parts = and_parts (access_is (touches core line) xs i) (not (any_below n (λ k. nat_lt i k && access_is (touches core line) xs k))) h in
      let none = any_false n (λ k. nat_lt i k && access_is (touches core line) xs k) (not-true (any_below n (λ k. nat_lt i k && access_is (touches core line) xs k)) parts.1) k below in
      false≢true (sym none ∙ and_from (nat_lt i k) (access_is (touches core line) xs k) (lt-ltb i k after) touch)

  -- a later access of the core to an intact line is to another line
  pub other_line : (n k p m : ℕ) → is_last core (line_at xs k) xs n k ≡ true → k < p → p < n → is_intact core (line_at xs p) xs m p ≡ true → line_at xs p ≡ line_at xs k → ⊥
  other_line n k p m last after below intact same =
      let touch = last_touches (line_at xs p) m p (intact_last_one (line_at xs p) m p intact) in
      not_again (line_at xs k) n k p last after below (subst (λ line. access_is (touches core line) xs p ≡ true) same touch)

  -- fewer than `ways` lines are more recent than a line that is held
  pub recent_bound : (line n i : ℕ) → 0 < shape.ways → i < n → is_kept shape core line xs n i ≡ true → count_below n (is_recent shape core line xs n i) < shape.ways
  recent_bound line zero i some lt h = absurd (omega arith)
  recent_bound line (suc s) i some lt h = elim (cases_eq i s) [
    | inl same ↦
        let none = count_flat 0 (suc s) (is_recent shape core line xs (suc s) i) (omega arith) (λ k from below. rw (le-ltb i k (omega arith)) refl) in
        omega (arith, none)
    | inr ne ↦
        let after : i < s = grind arith in
        let parts = and_parts (is_intact core line xs (suc s) i) (not (is_pushed_out shape core line xs (suc s) i)) h in
        let none = any_false (suc s) (λ s. nat_lt i s && nat_le shape.ways (other_lines shape core line xs i s)) (not-true (is_pushed_out shape core line xs (suc s) i) parts.1) s (omega arith) in
        elim (and_cases (nat_lt i s) (nat_le shape.ways (other_lines shape core line xs i s)) none) [
          | inl no_ ↦ absurd (false≢true (sym no_ ∙ lt-ltb i s after))
          | inr no_ ↦ leb-false shape.ways (other_lines shape core line xs i s) no_
        ]
  ]

  -- the lines more recent than a later one are among those more recent than an earlier one
  others_within : (n k m s : ℕ) → is_last core (line_at xs k) xs n k ≡ true → k < m → s < n → same_set shape (line_at xs m) (line_at xs k) ≡ true →
      other_lines shape core (line_at xs m) xs m s ≤ other_lines shape core (line_at xs k) xs k s
  others_within n k m s last after below same =
      count_implied (suc s) (is_recent shape core (line_at xs m) xs (suc s) m) (is_recent shape core (line_at xs k) xs (suc s) k) (λ p lt h.
      let one = and_parts (nat_lt m p && same_set shape (line_at xs p) (line_at xs m) && not (line_at xs p == line_at xs m)) (is_intact core (line_at xs p) xs (suc s) p) h in
      let two = and_parts (nat_lt m p && same_set shape (line_at xs p) (line_at xs m)) (not (line_at xs p == line_at xs m)) one.0 in
      let three = and_parts (nat_lt m p) (same_set shape (line_at xs p) (line_at xs m)) two.0 in
      let later : m < p = ltb-true m p three.0 in
      let set : line_at xs p % shape.sets ≡ line_at xs k % shape.sets = eqb-true (line_at xs p % shape.sets) (line_at xs m % shape.sets) three.1 ∙ eqb-true (line_at xs m % shape.sets) (line_at xs k % shape.sets) same in
      let differs = not_from_false (line_at xs p == line_at xs k) (ne_eqb (line_at xs p) (line_at xs k) (other_line n k p (suc s) last (omega arith) (omega arith) one.1)) in
      and_from (nat_lt k p && same_set shape (line_at xs p) (line_at xs k) && not (line_at xs p == line_at xs k)) (is_intact core (line_at xs p) xs (suc s) p)
      (and_from (nat_lt k p && same_set shape (line_at xs p) (line_at xs k)) (not (line_at xs p == line_at xs k))
      (and_from (nat_lt k p) (same_set shape (line_at xs p) (line_at xs k)) (lt-ltb k p (omega arith)) (eq-eqb (line_at xs p % shape.sets) (line_at xs k % shape.sets) set))
      differs)
      one.1)

  pub newer_kept : (n k m : ℕ) → is_kept shape core (line_at xs k) xs n k ≡ true → k < m → m < n → same_set shape (line_at xs m) (line_at xs k) ≡ true →
      is_intact core (line_at xs m) xs n m ≡ true → is_kept shape core (line_at xs m) xs n m ≡ true
  newer_kept n k m h after below same intact =
      let parts = and_parts (is_intact core (line_at xs k) xs n k) (not (is_pushed_out shape core (line_at xs k) xs n k)) h in
      let last = intact_last_one (line_at xs k) n k parts.0 in
      let pushed : is_pushed_out shape core (line_at xs m) xs n m ≡ false = any_none n (λ s. nat_lt m s && nat_le shape.ways (other_lines shape core (line_at xs m) xs m s)) (λ s lt.
      false_from_ne_true (nat_lt m s && nat_le shape.ways (other_lines shape core (line_at xs m) xs m s)) (λ out.
      let two = and_parts (nat_lt m s) (nat_le shape.ways (other_lines shape core (line_at xs m) xs m s)) out in
      let later : m < s = ltb-true m s two.0 in
      let many : shape.ways ≤ other_lines shape core (line_at xs m) xs m s = leb-true shape.ways (other_lines shape core (line_at xs m) xs m s) two.1 in
      let within = others_within n k m s last after lt same in
      let none = any_false n (λ s. nat_lt k s && nat_le shape.ways (other_lines shape core (line_at xs k) xs k s)) (not-true (is_pushed_out shape core (line_at xs k) xs n k) parts.1) s lt in
      elim (and_cases (nat_lt k s) (nat_le shape.ways (other_lines shape core (line_at xs k) xs k s)) none) [
        | inl no_ ↦ let early : k < s = omega arith in false≢true (sym no_ ∙ lt-ltb k s early)
        | inr no_ ↦ absurd (omega (arith, leb-false shape.ways (other_lines shape core (line_at xs k) xs k s) no_, many, within))
      ])) in
      and_from (is_intact core (line_at xs m) xs n m) (not (is_pushed_out shape core (line_at xs m) xs n m)) intact (not_from_false (is_pushed_out shape core (line_at xs m) xs n m) pushed)

  -- two last accesses to one line are one
  last_unique : (line n i k : ℕ) → i < n → k < n → is_last core line xs n i ≡ true → is_last core line xs n k ≡ true → i ≡ k
  last_unique line n i k lt lt' h h' = elim (cases_order i k) [
    | inl same ↦ same
    | inr others ↦ elim others [
      | inl before ↦ absurd (not_again line n i k h before lt' (last_touches line n k h'))
      | inr later ↦ absurd (not_again line n k i h' later lt (last_touches line n i h))
    ]
  ]

  pub would_hit_is : (line : ℕ) → would_hit shape core line xs ≡ any_below (length xs) (is_kept shape core line xs (length xs))
  would_hit_is line =
      let probe : LineAccess = record { core = core; line = line; stores = false } in
      let same : would_hit shape core line xs ≡ any_below (length xs) (is_kept shape core line (xs ++ probe ∷ []) (length xs)) = cc (core_last xs probe, line_last xs probe) in
      same ∙ any_agree (length xs) (is_kept shape core line (xs ++ probe ∷ []) (length xs)) (is_kept shape core line xs (length xs)) (λ i lt. kept_kept xs probe shape core line (length xs) i (omega arith) lt)

  -- the line of access k, of the set, is held since then
  abbrev pub is_here : ℕ → ℕ → Bool
  is_here set k = is_kept shape core (line_at xs k) xs (length xs) k && (line_at xs k % shape.sets == set)

  held_is_here : (set k : ℕ) → k < length xs → is_held shape core set xs k ≡ is_here set k
  held_is_here set k lt =
      same_tests (is_held shape core set xs k) (is_here set k)
      (λ h.
      let one = and_parts (is_last core (line_at xs k) xs (length xs) k && (line_at xs k % shape.sets == set)) (would_hit shape core (line_at xs k) xs) h in
      let two = and_parts (is_last core (line_at xs k) xs (length xs) k) (line_at xs k % shape.sets == set) one.0 in
      let found = any_true (length xs) (is_kept shape core (line_at xs k) xs (length xs)) (sym (would_hit_is (line_at xs k)) ∙ one.1) in
      let last = intact_last_one (line_at xs k) (length xs) found.0 (kept_intact (line_at xs k) (length xs) found.0 found.2) in
      let same = last_unique (line_at xs k) (length xs) found.0 k found.1 lt last two.0 in
      and_from (is_kept shape core (line_at xs k) xs (length xs) k) (line_at xs k % shape.sets == set) (ap (is_kept shape core (line_at xs k) xs (length xs)) (sym same) ∙ found.2) two.1)
      (λ h.
      let one = and_parts (is_kept shape core (line_at xs k) xs (length xs) k) (line_at xs k % shape.sets == set) h in
      let last = intact_last_one (line_at xs k) (length xs) k (kept_intact (line_at xs k) (length xs) k one.0) in
      and_from (is_last core (line_at xs k) xs (length xs) k && (line_at xs k % shape.sets == set)) (would_hit shape core (line_at xs k) xs)
      (and_from (is_last core (line_at xs k) xs (length xs) k) (line_at xs k % shape.sets == set) last one.1)
      (would_hit_is (line_at xs k) ∙ any_from (length xs) (is_kept shape core (line_at xs k) xs (length xs)) k lt one.0))

  pub held_lines : (set : ℕ) → lines_held shape core set xs ≡ map (line_at xs) (newest_below (length xs) (is_here set))
  held_lines set = ap (map (line_at xs)) (newest_reverse (length xs) (is_held shape core set xs) ∙ newest_agree (length xs) (is_held shape core set xs) (is_here set) (λ k lt. held_is_here set k lt))
