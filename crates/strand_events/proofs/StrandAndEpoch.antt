-- Serves Trace::epoch_of and push.
-- A core's counts of events number its strands and epochs.
use Rattle.std.proofs.Common.{◌≡◌, ℕ, suc, ◌+◌, ◌<◌, ◌≤◌, Bool, true, false, ◌&&◌, inl, inr, List, [], ◌∷◌, ◌++◌, length, refl, sym, ap, ◌∙◌, arith, add-one}
use Rattle.std.specs.Prelude.{◌==◌, if◌then◌else◌}
use Rattle.std.proofs.lemmas.Bool.{cases_Bool, and_right, eq-eqb, eqb-true, ne_eqb}
use Rattle.strand_base.specs.Counting.{count_below}
use Rattle.strand_base.proofs.BelowBound.{get_last, count_agree, count_mono, count_flat}
use Rattle.strand_inputs.specs.declared.mode.Mode.{Mode}
use Rattle.strand_inputs.specs.declared.mode.Mode.TheVariants.{Strict, Epoch, Strand}
use Rattle.strand_events.specs.declared.event.Event.{Event}
use Rattle.strand_events.specs.Trace.{passes, core_of, core_in, is_access, is_new_strand, is_barrier_or_join, core_at, event_is, core_event_is, strand_number, same_strand, epoch}
use Rattle.strand_events.specs.EventCounts.{core_count, is_border, counts_below, counts_after, epoch_in}
use Rattle.strand_events.proofs.LongerTrace.{core_event_kept}
use Rattle.strand_events.proofs.TestLaws.{and_true}

-- the second test decides whether the third is asked
and_moved : (a b x y : Bool) → (b ≡ true → x ≡ y) → (a && (b && x)) ≡ ((a && b) && y)
and_moved false b x y h = refl
and_moved true true x y h = h refl
and_moved true false x y h = refl

-- the epoch of an event is the one that its core's counts give
pub epoch_counted : (mode : Mode) (t : List Event) (i : ℕ) → epoch_in mode (counts_below t (core_at t i) i) ≡ epoch mode t i
epoch_counted Strict t i = refl
epoch_counted Epoch t i = count_agree i (core_event_is is_barrier_or_join (core_at t i) t) (λ k. event_is is_barrier_or_join t k && same_strand Epoch t k i) (λ k lt. ap (λ b. event_is is_barrier_or_join t k && b) (sym (and_true (core_at t k == core_at t i))))
epoch_counted Strand t i =
    count_agree i (is_border (core_at t i) t i) (λ k. event_is is_barrier_or_join t k && same_strand Strand t k i) (λ k lt.
    sym (and_moved (event_is is_barrier_or_join t k) (core_at t k == core_at t i) (strand_number Strand t k == strand_number Strand t i) (core_count is_new_strand (core_at t i) t k == core_count is_new_strand (core_at t i) t i) (λ e.
    ap (λ c. core_count is_new_strand c t k == core_count is_new_strand (core_at t i) t i) (eqb-true (core_at t k) (core_at t i) e))))

module _ (t : List Event) (e : Event) where
  -- the last event of a trace counts for its core, where it passes
  last_counts : (test : Event → Bool) (core : ℕ) → core_event_is test core (t ++ e ∷ []) (length t) ≡ (test e && (core_of e == core))
  last_counts test core = ap (λ x. passes test x && (core_in x == core)) (get_last t e)

  -- counts below the end are those of the shorter trace
  count_kept : (test : Event → Bool) (core n : ℕ) → n ≤ length t → core_count test core (t ++ e ∷ []) n ≡ core_count test core t n
  count_kept test core n le = count_agree n (core_event_is test core (t ++ e ∷ [])) (core_event_is test core t) (λ k lt. core_event_kept t e test core k (omega arith))

  border_kept : (core n k : ℕ) → n ≤ length t → k < n → is_border core (t ++ e ∷ []) n k ≡ is_border core t n k
  border_kept core n k le lt =
      let inside : k < length t = omega arith in
      let upto : k ≤ length t = omega arith in
      cc (core_event_kept t e is_barrier_or_join core k inside, count_kept is_new_strand core k upto, count_kept is_new_strand core n le)

  pub counts_kept : (core n : ℕ) → n ≤ length t → counts_below (t ++ e ∷ []) core n ≡ counts_below t core n
  counts_kept core n le =
      let one = count_kept is_access core n le in
      let two = count_kept is_new_strand core n le in
      let three = count_kept is_barrier_or_join core n le in
      let four : count_below n (is_border core (t ++ e ∷ []) n) ≡ count_below n (is_border core t n) = count_agree n (is_border core (t ++ e ∷ []) n) (is_border core t n) (λ k lt. border_kept core n k le lt) in
      cc (one, two, three, four)

  count_next : (test : Event → Bool) (core : ℕ) → core_count test core (t ++ e ∷ []) (suc (length t)) ≡ (if test e && (core_of e == core) then core_count test core t (length t) + 1 else core_count test core t (length t))
  count_next test core =
      let same = count_kept test core (length t) (omega arith) in
      rw (last_counts test core, same, add-one) refl

  -- the core's borders in its open strand, where the event begins none
  borders_next : (core : ℕ) → (is_new_strand e && (core_of e == core)) ≡ false
      → count_below (suc (length t)) (is_border core (t ++ e ∷ []) (suc (length t)))
      ≡ (if is_barrier_or_join e && (core_of e == core) then count_below (length t) (is_border core t (length t)) + 1 else count_below (length t) (is_border core t (length t)))
  borders_next core none =
      let n = length t in
      let t' = t ++ e ∷ [] in
      let same : core_count is_new_strand core t' (suc n) ≡ core_count is_new_strand core t n = rw none at (count_next is_new_strand core) in
      let here : core_count is_new_strand core t' n ≡ core_count is_new_strand core t n = count_kept is_new_strand core n (omega arith) in
      let last : is_border core t' (suc n) n ≡ (is_barrier_or_join e && (core_of e == core)) =
      ap (λ b. b && (core_count is_new_strand core t' n == core_count is_new_strand core t' (suc n))) (last_counts is_barrier_or_join core)
      ∙ ap (λ b. (is_barrier_or_join e && (core_of e == core)) && b) (eq-eqb (core_count is_new_strand core t' n) (core_count is_new_strand core t' (suc n)) (here ∙ sym same))
      ∙ and_true (is_barrier_or_join e && (core_of e == core)) in
      let before : count_below n (is_border core t' (suc n)) ≡ count_below n (is_border core t n) = count_agree n (is_border core t' (suc n)) (is_border core t n) (λ k lt.
      let upto : k ≤ n = omega arith in
      cc (core_event_kept t e is_barrier_or_join core k lt, count_kept is_new_strand core k upto, same)) in
      rw (last, before, add-one) refl

  -- an event that begins a strand leaves none in it
  borders_begun : (core : ℕ) → (is_new_strand e && (core_of e == core)) ≡ true → count_below (suc (length t)) (is_border core (t ++ e ∷ []) (suc (length t))) ≡ 0
  borders_begun core begun =
      let n = length t in
      let t' = t ++ e ∷ [] in
      let more : core_count is_new_strand core t' (suc n) ≡ core_count is_new_strand core t n + 1 = rw begun at (count_next is_new_strand core) in
      let here : core_count is_new_strand core t' n ≡ core_count is_new_strand core t n = count_kept is_new_strand core n (omega arith) in
      count_flat 0 (suc n) (is_border core t' (suc n)) (omega arith) (λ k low lt.
      let upto : k ≤ n = omega arith in
      let fewer : core_count is_new_strand core t' k ≤ core_count is_new_strand core t' n = count_mono k n (core_event_is is_new_strand core t') upto in
      and_right (core_event_is is_barrier_or_join core t' k) (core_count is_new_strand core t' k == core_count is_new_strand core t' (suc n)) (ne_eqb (core_count is_new_strand core t' k) (core_count is_new_strand core t' (suc n)) (λ even. absurd (omega (arith, even, more, here, fewer)))))

  own : (test : Event → Bool) → (test e && (core_of e == core_of e)) ≡ test e
  own test = ap (λ b. test e && b) (eq-eqb (core_of e) (core_of e) refl) ∙ and_true (test e)

  -- the event's own core
  pub counts_own : counts_below (t ++ e ∷ []) (core_of e) (suc (length t)) ≡ counts_after e (counts_below t (core_of e) (length t))
  counts_own =
      let core = core_of e in
      let one = rw (own is_access) at (count_next is_access core) in
      let two = rw (own is_new_strand) at (count_next is_new_strand core) in
      let three = rw (own is_barrier_or_join) at (count_next is_barrier_or_join core) in
      let four : count_below (suc (length t)) (is_border core (t ++ e ∷ []) (suc (length t))) ≡ (counts_after e (counts_below t core (length t))).strand_borders = elim (cases_Bool (is_new_strand e)) [
        | inl yes_ ↦ rw yes_ (borders_begun core (own is_new_strand ∙ yes_))
        | inr no_ ↦ rw no_ (rw (own is_barrier_or_join) at (borders_next core (own is_new_strand ∙ no_)))
      ] in
      cc (one, two, three, four)

  -- another core
  pub counts_other : (core : ℕ) → (core_of e == core) ≡ false → counts_below (t ++ e ∷ []) core (suc (length t)) ≡ counts_below t core (length t)
  counts_other core other =
      let none : (test : Event → Bool) → (test e && (core_of e == core)) ≡ false = λ test. and_right (test e) (core_of e == core) other in
      let one = rw (none is_access) at (count_next is_access core) in
      let two = rw (none is_new_strand) at (count_next is_new_strand core) in
      let three = rw (none is_barrier_or_join) at (count_next is_barrier_or_join core) in
      let four = rw (none is_barrier_or_join) at (borders_next core (none is_new_strand)) in
      cc (one, two, three, four)
