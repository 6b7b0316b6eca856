-- Serves Trace::joined: a persist is joined where its core's last join comes later.
use Rattle.std.proofs.Common.{◌≡◌, ℕ, zero, suc, ◌+◌, ◌<◌, ◌≤◌, Bool, true, false, ◌&&◌, inl, inr, Some, List, [], ◌∷◌, ◌++◌, length, refl, sym, ap, ◌∙◌, arith, add-one}
use Rattle.std.specs.Prelude.{nat_lt, slice_index, slice_index_or}
use Rattle.std.proofs.lemmas.Bool.{cases_Bool, cases_lt, lt-ltb, le-ltb}
use Rattle.std.proofs.lemmas.Option.{slice_get-get_or}
use Rattle.strand_base.specs.Counting.{any_below, list_below}
use Rattle.strand_base.proofs.BelowBound.{list_get}
use Rattle.strand_events.specs.declared.event.Event.{Event}
use Rattle.strand_events.specs.Trace.{core_of, core_in, core_at, is_join, is_persist, event_is, core_event_is, persists_of}
use Rattle.strand_events.specs.Fits.{EventFits, AllFit}
use Rattle.strand_events.specs.Joins.{join_end, AreJoinEnds}
use Rattle.strand_events.specs.Order.{is_joined}

pub fits_at : (t : List Event) (i : ℕ) (d : Event) → i < length t → AllFit t → EventFits (slice_index_or t i d)
fits_at [] i d lt all = absurd (omega arith)
fits_at (x ∷ t) zero d lt all = all.0
fits_at (x ∷ t) (suc i) d lt all = fits_at t i d (omega arith) all.1

list_yes : (n : ℕ) (f : ℕ → Bool) → f n ≡ true → list_below (suc n) f ≡ list_below n f ++ n ∷ []
list_yes n f e = rw e refl

list_no : (n : ℕ) (f : ℕ → Bool) → f n ≡ false → list_below (suc n) f ≡ list_below n f
list_no n f e = rw e refl

any_none : (n : ℕ) (f : ℕ → Bool) → ((k : ℕ) → k < n → f k ≡ false) → any_below n f ≡ false
any_none zero f none = refl
any_none (suc n) f none = rw (none n (omega arith), any_none n f (λ k lt. none k (omega arith))) refl

module _ (core : ℕ) (t : List Event) (k : ℕ) where
  -- event j is a join of the core behind event k
  abbrev pub later : ℕ → Bool
  later j = nat_lt k j && core_event_is is_join core t j

  none_later : (j : ℕ) → j ≤ k → later j ≡ false
  none_later j le = ap (λ b. b && core_event_is is_join core t j) (le-ltb k j le)

  no_join : (j : ℕ) → core_event_is is_join core t j ≡ false → later j ≡ false
  no_join j none = ap (λ b. nat_lt k j && b) none ∙ elim (cases_Bool (nat_lt k j)) [ inl e ↦ rw e refl | inr e ↦ rw e refl ]

  -- some join of the core stands behind event k exactly where the last one ends past it
  pub join_later : (n : ℕ) → any_below n later ≡ nat_lt (k + 1) (join_end core t n)
  join_later zero = sym (le-ltb (k + 1) 0 (omega arith))
  join_later (suc n) = elim (cases_Bool (core_event_is is_join core t n)) [
    | inl join_ ↦ elim (cases_lt k n) [
      | inl lt ↦ rw (join_, lt-ltb k n lt) (sym (lt-ltb (k + 1) (suc n) (omega arith)))
      | inr le ↦ rw (join_, le-ltb k n le, any_none n later (λ j lt. none_later j (omega arith))) (sym (le-ltb (k + 1) (suc n) (omega arith)))
    ]
    | inr none ↦ rw (no_join n none, none) (join_later n)
  ]

-- event k is persist p
module _ (t : List Event) (p k : ℕ) (there : p < length (persists_of t)) (is : k ≡ slice_index (persists_of t) p) where
  pub persist_there : (k < length t) × (event_is is_persist t k ≡ true)
  persist_there =
      let found = list_get (length t) (event_is is_persist t) p k (slice_get-get_or (persists_of t) p 0 there ∙ ap Some (sym is)) in
      (found.0, found.1)

  module _ (ends : List ℕ) (d : Event) (fits : AllFit t) (are : AreJoinEnds t (length t) ends) where
    -- where the last join of the persist's core ends
    abbrev pub end_there : ℕ
    end_there = slice_index_or ends (core_of (slice_index_or t k d)) 0

    end_is : end_there ≡ join_end (core_at t k) t (length t)
    end_is =
        are.1 (core_of (slice_index_or t k d)) (fits_at t k d persist_there.0 fits).0
        ∙ ap (λ core. join_end core t (length t)) (sym (ap core_in (slice_get-get_or t k d persist_there.0)))

    joined_there : is_joined t (slice_index (persists_of t) p) ≡ nat_lt (k + 1) end_there
    joined_there = rw (← is) (rw (persist_there.1, end_is) (join_later (core_at t k) t k (length t)))

    -- the numbers of the joined persists, past persist p
    pub joined_more : (numbers new : List ℕ) → k + 1 < end_there
        → numbers ≡ list_below p (λ q. is_joined t (slice_index (persists_of t) q)) → new ≡ numbers ++ p ∷ []
        → new ≡ list_below (p + 1) (λ q. is_joined t (slice_index (persists_of t) q))
    joined_more numbers new lt e more =
        more ∙ ap (λ (ns : List ℕ). ns ++ p ∷ []) e ∙ sym (rw add-one (list_yes p (λ q. is_joined t (slice_index (persists_of t) q)) (joined_there ∙ lt-ltb (k + 1) end_there lt)))

    pub joined_same : (numbers : List ℕ) → end_there ≤ k + 1
        → numbers ≡ list_below p (λ q. is_joined t (slice_index (persists_of t) q))
        → numbers ≡ list_below (p + 1) (λ q. is_joined t (slice_index (persists_of t) q))
    joined_same numbers le e =
        e ∙ sym (rw add-one (list_no p (λ q. is_joined t (slice_index (persists_of t) q)) (joined_there ∙ le-ltb (k + 1) end_there le)))
