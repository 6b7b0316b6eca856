-- Serves clauses hits and steps of cache_laws.
-- One step of the lists of lines is one more access at the end of the list that they stand for.
use Rattle.std.proofs.Common.{◌≡◌, ℕ, zero, suc, ◌-◌, ◌<◌, Bool, true, false, ◌&&◌, inl, inr, List, [], ◌∷◌, ◌++◌, take, length, refl, sym, ap, ◌∙◌, arith, length-append}
use Rattle.std.specs.Prelude.{not, nat_lt, nat_le, ◌==◌, ◌%◌, map, slice_get}
use Rattle.std.specs.List.{list_any}
use Rattle.std.proofs.lemmas.Bool.{lt-ltb, ltb-true, leb-false, lt-leb, eqb-true, eq-eqb, ne_eqb, and_parts, and_from, and_cases, and_left, and_right, or_parts, or_from, not-true, not_from_false, not_from_true, false_from_ne_true, cases_Bool, false≢true}
use Rattle.strand_base.specs.Counting.{any_below}
use Rattle.strand_base.proofs.BelowBound.{any_agree, count_agree, count_yes, count_no}
use Rattle.strand_cache.specs.Accesses.{LineAccess, touches, takes, line_at}
use Rattle.strand_cache.specs.Hits.{Shape, same_set, is_intact, other_lines, is_kept, hit}
use Rattle.strand_cache.specs.Lists.{without_line, lines_after, lines_held, StandsFor}
use Rattle.strand_cache.proofs.Lists.Newest.{newest_below, newer, newest_agree, newest_yes, newest_no, map_agree, newest_take, without_newest, member_newest, count_implied, same_tests}
use Rattle.strand_cache.proofs.Lists.LongerList.{core_last, line_last, line_kept, kept_kept}
use Rattle.strand_cache.proofs.Lists.OneMore.{is_recent, breaks, recent_step, recent_last, kept_step, kept_last}
use Rattle.strand_cache.proofs.Lists.Recency.{own_line, kept_intact, intact_last_one, last_touches, other_line, recent_bound, newer_kept, is_here, held_lines}

map_take : (w : ℕ) (line : ℕ → ℕ) (ks : List ℕ) → map line (take w ks) ≡ take w (map line ks)
map_take zero line ks = refl
map_take (suc w) line [] = refl
map_take (suc w) line (k ∷ ks) = ap (λ l. line k ∷ l) (map_take w line ks)

take_front : (w a : ℕ) (l : List ℕ) → 0 < w → take w (a ∷ l) ≡ a ∷ take (w - 1) l
take_front zero a l some = absurd (omega arith)
take_front (suc w) a l some = let e : suc w - 1 ≡ w = omega arith in rw e refl

module _ (shape : Shape) (core set : ℕ) (xs : List LineAccess) (x : LineAccess) where
  -- the access is the core's, to a line of the set
  abbrev is_own : Bool
  is_own = (x.core == core) && (x.line % shape.sets == set)

  -- a line is in the core's list after the access
  abbrev is_next : ℕ → Bool
  is_next k = is_kept shape core (line_at (xs ++ x ∷ []) k) (xs ++ x ∷ []) (suc (length xs)) k && (line_at (xs ++ x ∷ []) k % shape.sets == set)

  next_lines : lines_held shape core set (xs ++ x ∷ []) ≡ map (line_at (xs ++ x ∷ [])) (newest_below (suc (length xs)) is_next)
  next_lines =
      let longer : length (xs ++ x ∷ []) ≡ suc (length xs) = omega (arith, length-append xs (x ∷ [])) in
      held_lines shape core (xs ++ x ∷ []) set ∙ ap (λ n. map (line_at (xs ++ x ∷ [])) (newest_below n (λ k. is_kept shape core (line_at (xs ++ x ∷ []) k) (xs ++ x ∷ []) n k && (line_at (xs ++ x ∷ []) k % shape.sets == set)))) longer

  touches_own : touches core x.line x ≡ (x.core == core)
  touches_own = rw (eq-eqb x.line x.line refl) (same_tests (x.core == core && true) (x.core == core) (λ h. let parts = and_parts (x.core == core) true h in parts.0) (λ h. and_from (x.core == core) true h refl))

  next_last : is_next (length xs) ≡ is_own
  next_last =
      let same : is_next (length xs) ≡ (touches core x.line x && (x.line % shape.sets == set)) = cc (line_last xs x, kept_last xs x shape core x.line) in
      same ∙ ap (λ b. b && (x.line % shape.sets == set)) touches_own

  next_step : (k : ℕ) → k < length xs → is_next k ≡ (is_kept shape core (line_at xs k) xs (length xs) k && not (breaks core (line_at xs k) x) && not (nat_le shape.ways (other_lines shape core (line_at xs k) (xs ++ x ∷ []) k (length xs))) && (line_at xs k % shape.sets == set))
  next_step k lt = cc (line_kept xs x k lt, kept_step xs x shape core (line_at xs k) k lt)

  -- the parts of a line's being in the list after the access, and back
  next_parts : (k : ℕ) → k < length xs → is_next k ≡ true →
      (is_kept shape core (line_at xs k) xs (length xs) k ≡ true) × (breaks core (line_at xs k) x ≡ false) × (other_lines shape core (line_at xs k) (xs ++ x ∷ []) k (length xs) < shape.ways) × ((line_at xs k % shape.sets == set) ≡ true)
  next_parts k lt h =
      let kept = is_kept shape core (line_at xs k) xs (length xs) k in
      let free = not (breaks core (line_at xs k) x) in
      let few = not (nat_le shape.ways (other_lines shape core (line_at xs k) (xs ++ x ∷ []) k (length xs))) in
      let one = and_parts (kept && free && few) (line_at xs k % shape.sets == set) (sym (next_step k lt) ∙ h) in
      let two = and_parts (kept && free) few one.0 in
      let three = and_parts kept free two.0 in
      (three.0, not-true (breaks core (line_at xs k) x) three.1, leb-false shape.ways (other_lines shape core (line_at xs k) (xs ++ x ∷ []) k (length xs)) (not-true (nat_le shape.ways (other_lines shape core (line_at xs k) (xs ++ x ∷ []) k (length xs))) two.1), one.1)

  next_from : (k : ℕ) → k < length xs → is_kept shape core (line_at xs k) xs (length xs) k ≡ true → breaks core (line_at xs k) x ≡ false → other_lines shape core (line_at xs k) (xs ++ x ∷ []) k (length xs) < shape.ways → (line_at xs k % shape.sets == set) ≡ true → is_next k ≡ true
  next_from k lt kept free few here =
      next_step k lt ∙ and_from (is_kept shape core (line_at xs k) xs (length xs) k && not (breaks core (line_at xs k) x) && not (nat_le shape.ways (other_lines shape core (line_at xs k) (xs ++ x ∷ []) k (length xs)))) (line_at xs k % shape.sets == set)
      (and_from (is_kept shape core (line_at xs k) xs (length xs) k && not (breaks core (line_at xs k) x)) (not (nat_le shape.ways (other_lines shape core (line_at xs k) (xs ++ x ∷ []) k (length xs))))
      (and_from (is_kept shape core (line_at xs k) xs (length xs) k) (not (breaks core (line_at xs k) x)) kept (not_from_false (breaks core (line_at xs k) x) free))
      (not_from_false (nat_le shape.ways (other_lines shape core (line_at xs k) (xs ++ x ∷ []) k (length xs))) (lt-leb shape.ways (other_lines shape core (line_at xs k) (xs ++ x ∷ []) k (length xs)) few)))
      here

  -- an access that is not the core's in this set leaves the lines that it does not take
  foreign : 0 < shape.ways → is_own ≡ false → (k : ℕ) → k < length xs → is_next k ≡ (is_here shape core xs set k && not (takes core (line_at xs k) x))
  foreign some strange k lt =
      same_tests (is_next k) (is_here shape core xs set k && not (takes core (line_at xs k) x))
      (λ h.
      let parts = next_parts k lt h in
      let free = or_parts (touches core (line_at xs k) x) (takes core (line_at xs k) x) parts.1 in
      and_from (is_here shape core xs set k) (not (takes core (line_at xs k) x)) (and_from (is_kept shape core (line_at xs k) xs (length xs) k) (line_at xs k % shape.sets == set) parts.0 parts.3) (not_from_false (takes core (line_at xs k) x) free.1))
      (λ h.
      let one = and_parts (is_here shape core xs set k) (not (takes core (line_at xs k) x)) h in
      let two = and_parts (is_kept shape core (line_at xs k) xs (length xs) k) (line_at xs k % shape.sets == set) one.0 in
      let here : line_at xs k % shape.sets ≡ set = eqb-true (line_at xs k % shape.sets) set two.1 in
      let untouched : touches core (line_at xs k) x ≡ false = false_from_ne_true (touches core (line_at xs k) x) (λ t.
      let parts = and_parts (x.core == core) (x.line == line_at xs k) t in
      let of_set : x.line % shape.sets ≡ set = ap (λ l. l % shape.sets) (eqb-true x.line (line_at xs k) parts.1) ∙ here in
      false≢true (sym strange ∙ and_from (x.core == core) (x.line % shape.sets == set) parts.0 (eq-eqb (x.line % shape.sets) set of_set))) in
      let not_new : is_recent shape core (line_at xs k) (xs ++ x ∷ []) (suc (length xs)) k (length xs) ≡ false = recent_last xs x shape core (line_at xs k) k lt ∙
      false_from_ne_true (same_set shape x.line (line_at xs k) && not (x.line == line_at xs k) && touches core x.line x) (λ t.
      let parts = and_parts (same_set shape x.line (line_at xs k) && not (x.line == line_at xs k)) (touches core x.line x) t in
      let more = and_parts (same_set shape x.line (line_at xs k)) (not (x.line == line_at xs k)) parts.0 in
      let of_set : x.line % shape.sets ≡ set = eqb-true (x.line % shape.sets) (line_at xs k % shape.sets) more.0 ∙ here in
      false≢true (sym strange ∙ and_from (x.core == core) (x.line % shape.sets == set) (sym touches_own ∙ parts.1) (eq-eqb (x.line % shape.sets) set of_set))) in
      let same = count_no (length xs) (is_recent shape core (line_at xs k) (xs ++ x ∷ []) (suc (length xs)) k) not_new in
      let fewer = count_implied (length xs) (is_recent shape core (line_at xs k) (xs ++ x ∷ []) (suc (length xs)) k) (is_recent shape core (line_at xs k) xs (length xs) k) (λ m below r.
      let parts = and_parts (is_recent shape core (line_at xs k) xs (length xs) k m) (not (breaks core (line_at xs m) x)) (sym (recent_step xs x shape core (line_at xs k) k m below) ∙ r) in parts.0) in
      let bound = recent_bound shape core xs (line_at xs k) (length xs) k some lt two.0 in
      next_from k lt two.0 (or_from (touches core (line_at xs k) x) (takes core (line_at xs k) x) untouched (not-true (takes core (line_at xs k) x) one.1)) (omega (arith, same, fewer, bound)) two.1)

  -- a line that the core held, other than the accessed one
  abbrev is_rest : ℕ → Bool
  is_rest k = is_here shape core xs set k && not (x.line == line_at xs k)

  -- the lines that count beside an old line after the core's own access: the accessed one and the newer ones of the rest
  own_count : is_own ≡ true → (k : ℕ) → k < length xs → is_rest k ≡ true → other_lines shape core (line_at xs k) (xs ++ x ∷ []) k (length xs) ≡ suc (newer (length xs) is_rest k)
  own_count own k lt rest =
      let mine = and_parts (x.core == core) (x.line % shape.sets == set) own in
      let one = and_parts (is_here shape core xs set k) (not (x.line == line_at xs k)) rest in
      let two = and_parts (is_kept shape core (line_at xs k) xs (length xs) k) (line_at xs k % shape.sets == set) one.0 in
      let here : line_at xs k % shape.sets ≡ set = eqb-true (line_at xs k % shape.sets) set two.1 in
      let last = intact_last_one shape core xs (line_at xs k) (length xs) k (kept_intact shape core xs (line_at xs k) (length xs) k two.0) in
      let new : is_recent shape core (line_at xs k) (xs ++ x ∷ []) (suc (length xs)) k (length xs) ≡ true = recent_last xs x shape core (line_at xs k) k lt ∙
      and_from (same_set shape x.line (line_at xs k) && not (x.line == line_at xs k)) (touches core x.line x)
      (and_from (same_set shape x.line (line_at xs k)) (not (x.line == line_at xs k)) (eq-eqb (x.line % shape.sets) (line_at xs k % shape.sets) (eqb-true (x.line % shape.sets) set mine.1 ∙ sym here)) one.1)
      (touches_own ∙ mine.0) in
      let agree = count_agree (length xs) (is_recent shape core (line_at xs k) (xs ++ x ∷ []) (suc (length xs)) k) (λ m. nat_lt k m && is_rest m) (λ m below.
      recent_step xs x shape core (line_at xs k) k m below ∙
      same_tests (is_recent shape core (line_at xs k) xs (length xs) k m && not (breaks core (line_at xs m) x)) (nat_lt k m && is_rest m)
      (λ h.
      let a = and_parts (is_recent shape core (line_at xs k) xs (length xs) k m) (not (breaks core (line_at xs m) x)) h in
      let b = and_parts (nat_lt k m && same_set shape (line_at xs m) (line_at xs k) && not (line_at xs m == line_at xs k)) (is_intact core (line_at xs m) xs (length xs) m) a.0 in
      let c = and_parts (nat_lt k m && same_set shape (line_at xs m) (line_at xs k)) (not (line_at xs m == line_at xs k)) b.0 in
      let d = and_parts (nat_lt k m) (same_set shape (line_at xs m) (line_at xs k)) c.0 in
      let kept = newer_kept shape core xs (length xs) k m two.0 (ltb-true k m d.0) below d.1 b.1 in
      let of_set : line_at xs m % shape.sets ≡ set = eqb-true (line_at xs m % shape.sets) (line_at xs k % shape.sets) d.1 ∙ here in
      let free = or_parts (touches core (line_at xs m) x) (takes core (line_at xs m) x) (not-true (breaks core (line_at xs m) x) a.1) in
      let differs : (x.line == line_at xs m) ≡ false = elim (and_cases (x.core == core) (x.line == line_at xs m) free.0) [ inl no_ ↦ absurd (false≢true (sym no_ ∙ mine.0)) | inr no_ ↦ no_ ] in
      and_from (nat_lt k m) (is_rest m) d.0
      (and_from (is_here shape core xs set m) (not (x.line == line_at xs m))
      (and_from (is_kept shape core (line_at xs m) xs (length xs) m) (line_at xs m % shape.sets == set) kept (eq-eqb (line_at xs m % shape.sets) set of_set))
      (not_from_false (x.line == line_at xs m) differs)))
      (λ h.
      let a = and_parts (nat_lt k m) (is_rest m) h in
      let b = and_parts (is_here shape core xs set m) (not (x.line == line_at xs m)) a.1 in
      let c = and_parts (is_kept shape core (line_at xs m) xs (length xs) m) (line_at xs m % shape.sets == set) b.0 in
      let intact = kept_intact shape core xs (line_at xs m) (length xs) m c.0 in
      let of_set : line_at xs m % shape.sets ≡ line_at xs k % shape.sets = eqb-true (line_at xs m % shape.sets) set c.1 ∙ sym here in
      let differs = not_from_false (line_at xs m == line_at xs k) (ne_eqb (line_at xs m) (line_at xs k) (other_line shape core xs (length xs) k m (length xs) last (ltb-true k m a.0) below intact)) in
      let untouched = and_right (x.core == core) (x.line == line_at xs m) (not-true (x.line == line_at xs m) b.1) in
      let untaken : takes core (line_at xs m) x ≡ false = and_left (x.stores && not (x.core == core)) (x.line == line_at xs m) (and_right x.stores (not (x.core == core)) (not_from_true (x.core == core) mine.0)) in
      and_from (is_recent shape core (line_at xs k) xs (length xs) k m) (not (breaks core (line_at xs m) x))
      (and_from (nat_lt k m && same_set shape (line_at xs m) (line_at xs k) && not (line_at xs m == line_at xs k)) (is_intact core (line_at xs m) xs (length xs) m)
      (and_from (nat_lt k m && same_set shape (line_at xs m) (line_at xs k)) (not (line_at xs m == line_at xs k))
      (and_from (nat_lt k m) (same_set shape (line_at xs m) (line_at xs k)) a.0 (eq-eqb (line_at xs m % shape.sets) (line_at xs k % shape.sets) of_set))
      differs)
      intact)
      (not_from_false (breaks core (line_at xs m) x) (or_from (touches core (line_at xs m) x) (takes core (line_at xs m) x) untouched untaken)))) in
      count_yes (length xs) (is_recent shape core (line_at xs k) (xs ++ x ∷ []) (suc (length xs)) k) new ∙ ap suc agree

  -- the core's own access keeps the newest of the rest
  own_step : 0 < shape.ways → is_own ≡ true → (k : ℕ) → k < length xs → is_next k ≡ (is_rest k && nat_lt (newer (length xs) is_rest k) (shape.ways - 1))
  own_step some own k lt =
      let mine = and_parts (x.core == core) (x.line % shape.sets == set) own in
      same_tests (is_next k) (is_rest k && nat_lt (newer (length xs) is_rest k) (shape.ways - 1))
      (λ h.
      let parts = next_parts k lt h in
      let free = or_parts (touches core (line_at xs k) x) (takes core (line_at xs k) x) parts.1 in
      let differs : (x.line == line_at xs k) ≡ false = elim (and_cases (x.core == core) (x.line == line_at xs k) free.0) [ inl no_ ↦ absurd (false≢true (sym no_ ∙ mine.0)) | inr no_ ↦ no_ ] in
      let rest : is_rest k ≡ true = and_from (is_here shape core xs set k) (not (x.line == line_at xs k)) (and_from (is_kept shape core (line_at xs k) xs (length xs) k) (line_at xs k % shape.sets == set) parts.0 parts.3) (not_from_false (x.line == line_at xs k) differs) in
      let few : newer (length xs) is_rest k < shape.ways - 1 = omega (arith, own_count own k lt rest, parts.2) in
      and_from (is_rest k) (nat_lt (newer (length xs) is_rest k) (shape.ways - 1)) rest (lt-ltb (newer (length xs) is_rest k) (shape.ways - 1) few))
      (λ h.
      let one = and_parts (is_rest k) (nat_lt (newer (length xs) is_rest k) (shape.ways - 1)) h in
      let two = and_parts (is_here shape core xs set k) (not (x.line == line_at xs k)) one.0 in
      let three = and_parts (is_kept shape core (line_at xs k) xs (length xs) k) (line_at xs k % shape.sets == set) two.0 in
      let untouched = and_right (x.core == core) (x.line == line_at xs k) (not-true (x.line == line_at xs k) two.1) in
      let untaken : takes core (line_at xs k) x ≡ false = and_left (x.stores && not (x.core == core)) (x.line == line_at xs k) (and_right x.stores (not (x.core == core)) (not_from_true (x.core == core) mine.0)) in
      let few : newer (length xs) is_rest k < shape.ways - 1 = ltb-true (newer (length xs) is_rest k) (shape.ways - 1) one.1 in
      let bound : other_lines shape core (line_at xs k) (xs ++ x ∷ []) k (length xs) < shape.ways = omega (arith, own_count own k lt one.0, few) in
      next_from k lt three.0 (or_from (touches core (line_at xs k) x) (takes core (line_at xs k) x) untouched untaken) bound three.1)

  held_now : lines_held shape core set xs ≡ map (line_at xs) (newest_below (length xs) (is_here shape core xs set))
  held_now = held_lines shape core xs set

  -- where the access is not the core's in this set, its list loses what the access takes
  foreign_lines : 0 < shape.ways → is_own ≡ false → lines_held shape core set (xs ++ x ∷ []) ≡ map (line_at xs) (newest_below (length xs) (λ k. is_here shape core xs set k && not (takes core (line_at xs k) x)))
  foreign_lines some strange =
      next_lines ∙ ap (map (line_at (xs ++ x ∷ []))) (newest_no (length xs) is_next (next_last ∙ strange)) ∙
      map_agree (length xs) is_next (line_at (xs ++ x ∷ [])) (line_at xs) (λ k lt. line_kept xs x k lt) ∙
      ap (map (line_at xs)) (newest_agree (length xs) is_next (λ k. is_here shape core xs set k && not (takes core (line_at xs k) x)) (λ k lt. foreign some strange k lt))

  -- an access that takes none of the lines of the set leaves the list
  untaken_lines : 0 < shape.ways → is_own ≡ false → ((k : ℕ) → k < length xs → is_here shape core xs set k ≡ true → takes core (line_at xs k) x ≡ false) → lines_held shape core set (xs ++ x ∷ []) ≡ lines_held shape core set xs
  untaken_lines some strange free =
      foreign_lines some strange ∙
      ap (map (line_at xs)) (newest_agree (length xs) (λ k. is_here shape core xs set k && not (takes core (line_at xs k) x)) (is_here shape core xs set) (λ k lt.
      same_tests (is_here shape core xs set k && not (takes core (line_at xs k) x)) (is_here shape core xs set k)
      (λ h. let parts = and_parts (is_here shape core xs set k) (not (takes core (line_at xs k) x)) h in parts.0)
      (λ h. and_from (is_here shape core xs set k) (not (takes core (line_at xs k) x)) h (not_from_false (takes core (line_at xs k) x) (free k lt h))))) ∙
      sym held_now

  taken_lines : 0 < shape.ways → is_own ≡ false → x.stores ≡ true → (x.core == core) ≡ false → lines_held shape core set (xs ++ x ∷ []) ≡ without_line x.line (lines_held shape core set xs)
  taken_lines some strange stores other =
      foreign_lines some strange ∙
      ap (map (line_at xs)) (newest_agree (length xs) (λ k. is_here shape core xs set k && not (takes core (line_at xs k) x)) is_rest (λ k lt. rw (stores, other) refl)) ∙
      sym (without_newest (length xs) (is_here shape core xs set) (line_at xs) x.line) ∙ ap (without_line x.line) (sym held_now)

  own_lines : 0 < shape.ways → is_own ≡ true → lines_held shape core set (xs ++ x ∷ []) ≡ take shape.ways (x.line ∷ without_line x.line (lines_held shape core set xs))
  own_lines some own =
      next_lines ∙ ap (map (line_at (xs ++ x ∷ []))) (newest_yes (length xs) is_next (next_last ∙ own)) ∙
      ap (λ l. l ∷ map (line_at (xs ++ x ∷ [])) (newest_below (length xs) is_next)) (line_last xs x) ∙
      ap (λ l. x.line ∷ l) (
      map_agree (length xs) is_next (line_at (xs ++ x ∷ [])) (line_at xs) (λ k lt. line_kept xs x k lt) ∙
      ap (map (line_at xs)) (newest_agree (length xs) is_next (λ k. is_rest k && nat_lt (newer (length xs) is_rest k) (shape.ways - 1)) (λ k lt. own_step some own k lt) ∙ newest_take (length xs) is_rest (shape.ways - 1)) ∙
      map_take (shape.ways - 1) (line_at xs) (newest_below (length xs) is_rest) ∙
      ap (take (shape.ways - 1)) (sym (without_newest (length xs) (is_here shape core xs set) (line_at xs) x.line) ∙ ap (without_line x.line) (sym held_now))) ∙
      sym (take_front shape.ways x.line (without_line x.line (lines_held shape core set xs)) some)

  module _ (lines : List ℕ) where
    after_own : (x.line % shape.sets == set) ≡ true → (x.core == core) ≡ true → lines_after shape x core set lines ≡ take shape.ways (x.line ∷ without_line x.line lines)
    after_own of_set mine = rw (of_set, mine) refl

    after_taken : (x.line % shape.sets == set) ≡ true → (x.core == core) ≡ false → x.stores ≡ true → lines_after shape x core set lines ≡ without_line x.line lines
    after_taken of_set other stores = rw (of_set, other, stores) refl

    after_load : (x.line % shape.sets == set) ≡ true → (x.core == core) ≡ false → x.stores ≡ false → lines_after shape x core set lines ≡ lines
    after_load of_set other loads = rw (of_set, other, loads) refl

    after_elsewhere : (x.line % shape.sets == set) ≡ false → lines_after shape x core set lines ≡ lines
    after_elsewhere not_of_set = rw not_of_set refl

  pub lines_step : 0 < shape.ways → lines_held shape core set (xs ++ x ∷ []) ≡ lines_after shape x core set (lines_held shape core set xs)
  lines_step some =
      let lines = lines_held shape core set xs in
      elim (cases_Bool (x.line % shape.sets == set)) [
        | inl of_set ↦ elim (cases_Bool (x.core == core)) [
          | inl mine ↦ own_lines some (and_from (x.core == core) (x.line % shape.sets == set) mine of_set) ∙ sym (after_own lines of_set mine)
          | inr other ↦ elim (cases_Bool x.stores) [
            | inl stores ↦ taken_lines some (and_left (x.core == core) (x.line % shape.sets == set) other) stores other ∙ sym (after_taken lines of_set other stores)
            | inr loads ↦
                untaken_lines some (and_left (x.core == core) (x.line % shape.sets == set) other) (λ k lt here. and_left (x.stores && not (x.core == core)) (x.line == line_at xs k) (and_left x.stores (not (x.core == core)) loads)) ∙
                sym (after_load lines of_set other loads)
          ]
        ]
        | inr not_of_set ↦
            untaken_lines some (and_right (x.core == core) (x.line % shape.sets == set) not_of_set) (λ k lt here.
            let parts = and_parts (is_kept shape core (line_at xs k) xs (length xs) k) (line_at xs k % shape.sets == set) here in
            and_right (x.stores && not (x.core == core)) (x.line == line_at xs k) (ne_eqb x.line (line_at xs k) (λ same.
            let of_set : x.line % shape.sets ≡ set = ap (λ l. l % shape.sets) same ∙ eqb-true (line_at xs k % shape.sets) set parts.1 in
            false≢true (sym not_of_set ∙ eq-eqb (x.line % shape.sets) set of_set)))) ∙
            sym (after_elsewhere lines not_of_set)
      ]

-- the access hits where its core holds its line
pub hit_is_held : (shape : Shape) (xs : List LineAccess) (x : LineAccess) → hit shape (xs ++ x ∷ []) (length xs) ≡ list_any (λ line. x.line == line) (lines_held shape x.core (x.line % shape.sets) xs)
hit_is_held shape xs x =
    let same : hit shape (xs ++ x ∷ []) (length xs) ≡ any_below (length xs) (is_kept shape x.core x.line (xs ++ x ∷ []) (length xs)) = cc (core_last xs x, line_last xs x) in
    same ∙
    any_agree (length xs) (is_kept shape x.core x.line (xs ++ x ∷ []) (length xs)) (is_kept shape x.core x.line xs (length xs)) (λ i lt. kept_kept xs x shape x.core x.line (length xs) i (omega arith) lt) ∙
    any_agree (length xs) (is_kept shape x.core x.line xs (length xs)) (λ k. is_here shape x.core xs (x.line % shape.sets) k && (x.line == line_at xs k)) (λ k lt.
    same_tests (is_kept shape x.core x.line xs (length xs) k) (is_here shape x.core xs (x.line % shape.sets) k && (x.line == line_at xs k))
    (λ h.
    let touch = last_touches shape x.core xs x.line (length xs) k (intact_last_one shape x.core xs x.line (length xs) k (kept_intact shape x.core xs x.line (length xs) k h)) in
    let of_line : line_at xs k ≡ x.line = own_line x.core x.line (slice_get xs k) touch in
    and_from (is_here shape x.core xs (x.line % shape.sets) k) (x.line == line_at xs k)
    (and_from (is_kept shape x.core (line_at xs k) xs (length xs) k) (line_at xs k % shape.sets == x.line % shape.sets)
    (ap (λ l. is_kept shape x.core l xs (length xs) k) of_line ∙ h)
    (eq-eqb (line_at xs k % shape.sets) (x.line % shape.sets) (ap (λ l. l % shape.sets) of_line)))
    (eq-eqb x.line (line_at xs k) (sym of_line)))
    (λ h.
    let one = and_parts (is_here shape x.core xs (x.line % shape.sets) k) (x.line == line_at xs k) h in
    let two = and_parts (is_kept shape x.core (line_at xs k) xs (length xs) k) (line_at xs k % shape.sets == x.line % shape.sets) one.0 in
    ap (λ l. is_kept shape x.core l xs (length xs) k) (eqb-true x.line (line_at xs k) one.1) ∙ two.0)) ∙
    sym (ap (list_any (λ line. x.line == line)) (held_lines shape x.core xs (x.line % shape.sets)) ∙ member_newest (length xs) (is_here shape x.core xs (x.line % shape.sets)) (line_at xs) x.line)

-- after one step the lists stand for the longer list, and the step's hit is the rule's
pub step_stands : (shape : Shape) (cores : ℕ) (before after : ℕ → ℕ → List ℕ) (xs : List LineAccess) (x : LineAccess) → 0 < shape.ways → StandsFor shape cores before xs →
    ((core set : ℕ) → core < cores → set < shape.sets → after core set ≡ lines_after shape x core set (before core set)) → StandsFor shape cores after (xs ++ x ∷ [])
step_stands shape cores before after xs x some stands step core set c s = step core set c s ∙ ap (lines_after shape x core set) (stands core set c s) ∙ sym (lines_step shape core set xs x some)

pub step_hits : (shape : Shape) (cores : ℕ) (before : ℕ → ℕ → List ℕ) (xs : List LineAccess) (x : LineAccess) → 0 < shape.sets → x.core < cores → StandsFor shape cores before xs →
    list_any (λ line. x.line == line) (before x.core (x.line % shape.sets)) ≡ hit shape (xs ++ x ∷ []) (length xs)
step_hits shape cores before xs x some c stands =
    let set : x.line % shape.sets < shape.sets = omega arith in
    ap (list_any (λ line. x.line == line)) (stands x.core (x.line % shape.sets) c set) ∙ sym (hit_is_held shape xs x)
