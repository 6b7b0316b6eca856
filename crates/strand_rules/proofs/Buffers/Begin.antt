-- Serves clause buffers of parts_are_kept: a strand begins in an empty buffer, also in a longer trace.
use Rattle.std.proofs.Common.{◌≡◌, ℕ, ◌+◌, ◌<◌, ◌≤◌, Bool, true, inl, inr, List, [], ◌∷◌, ◌++◌, length, refl, sym, ap, subst, ◌∙◌, arith}
use Rattle.std.specs.Prelude.{Some, None, slice_get, ◌%◌, ◌==◌}
use Rattle.std.specs.declared.option.Option.{Option}
use Rattle.std.proofs.lemmas.Bool.{and_from, eq-eqb, or_cases, both_ways, false≢true}
use Rattle.strand_base.specs.Counting.{count_below}
use Rattle.strand_base.proofs.BelowBound.{count_strict}
use Rattle.strand_inputs.specs.declared.mode.Mode.{Mode}
use Rattle.strand_inputs.specs.declared.mode.Mode.TheVariants.{Strict, Epoch, Strand}
use Rattle.strand_events.specs.declared.event.Event.{Event}
use Rattle.strand_events.specs.Trace.{passes, is_persist, is_barrier, is_new_strand, core_at, event_is, core_event_is, strand_number}
use Rattle.strand_events.specs.Order.{Set}
use Rattle.strand_events.proofs.LongerTrace.{core_kept, number_kept}
use Rattle.strand_events.proofs.PersistOrder.Epochs.{persist_access, access_begins_none, barrier_begins_none}
use Rattle.strand_rules.specs.Cycle.{is_item}
use Rattle.strand_rules.proofs.Order.Sets.Event.{new_or_old, was, rank_kept, items_kept}
use Rattle.strand_rules.proofs.Ranks.{rank}

-- persist p was dispatched
pub record Taken (mode : Mode) (t : List Event) (dispatched : ℕ → ℕ) (p : ℕ) : Type 0 where
  pub persist : event_is is_persist t p ≡ true
  pub gone : rank mode t p < dispatched (core_at t p)

-- event j begins a strand, and was dispatched
pub record Begins (mode : Mode) (t : List Event) (dispatched : ℕ → ℕ) (j : ℕ) : Type 0 where
  pub begins : event_is is_new_strand t j ≡ true
  pub item : event_is (is_item mode) t j ≡ true
  pub gone : rank mode t j < dispatched (core_at t j)

-- where a strand was begun in a buffer, the dispatched persists of earlier strands there are durable
abbrev pub AreEmptied : Mode → ℕ → List Event → (ℕ → ℕ) → Set → Type 0
AreEmptied mode buffers t dispatched durable = (p j : ℕ) → Taken mode t dispatched p → Begins mode t dispatched j
    → core_at t p ≡ core_at t j → strand_number mode t p ≤ strand_number mode t j → strand_number mode t p % buffers ≡ (strand_number mode t j + 1) % buffers
    → durable p ≡ true

-- no persist begins a strand
pub begins_none : (o : Option Event) → passes is_new_strand o ≡ true → passes is_persist o ≡ true → ⊥
begins_none None begins is = false≢true begins
begins_none (Some e) begins is = both_ways (is_new_strand e) (access_begins_none e (persist_access e is)) begins

-- a begin of a strand is an item under strand alone
pub found_strand : (mode : Mode) (o : Option Event) → passes is_new_strand o ≡ true → passes (is_item mode) o ≡ true → mode ≡ Strand
found_strand mode None begins item = absurd (false≢true begins)
found_strand Strand (Some e) begins item = refl
found_strand Strict (Some e) begins item = absurd (begins_none (Some e) begins item)
found_strand Epoch (Some e) begins item = elim (or_cases (is_persist e) (is_barrier e) item) [
  | inl is ↦ absurd (begins_none (Some e) begins is)
  | inr is ↦ absurd (both_ways (is_new_strand e) (barrier_begins_none e is) begins)
]

strand_rises : (mode : Mode) (t : List Event) (j k : ℕ) → mode ≡ Strand → event_is is_new_strand t j ≡ true → core_at t j ≡ core_at t k → j < k → strand_number mode t j < strand_number mode t k
strand_rises mode t j k is begins c lt = rw is (
    let test = core_event_is is_new_strand (core_at t j) t in
    let more : count_below j test < count_below k test = count_strict j j k test (omega arith) lt (and_from (event_is is_new_strand t j) (core_at t j == core_at t j) begins (eq-eqb (core_at t j) (core_at t j) refl)) in
    subst (λ n. count_below j test < count_below k (core_event_is is_new_strand n t)) c more)

-- the strand after a begin has a greater number
pub begun_before : (mode : Mode) (t : List Event) (j k : ℕ) → event_is is_new_strand t j ≡ true → event_is (is_item mode) t j ≡ true → core_at t j ≡ core_at t k → j < k → strand_number mode t j < strand_number mode t k
begun_before mode t j k begins item c lt = strand_rises mode t j k (found_strand mode (slice_get t j) begins item) begins c lt

module _ (mode : Mode) (t : List Event) (e : Event) (dispatched : ℕ → ℕ) (within : (core : ℕ) → dispatched core ≤ count_below (length t) (core_event_is (is_item mode) core t)) where
  -- the new event wasn't dispatched
  pub old_rank : (test : Event → Bool) (x : ℕ) → event_is test (t ++ e ∷ []) x ≡ true → rank mode (t ++ e ∷ []) x < dispatched (core_at (t ++ e ∷ []) x)
      → (x < length t) × (event_is test t x ≡ true) × (rank mode t x < dispatched (core_at t x))
  old_rank test x is below = elim (new_or_old mode t e test x is) [
    | inl new ↦
        let core : ℕ = core_at (t ++ e ∷ []) x in
        let full : rank mode (t ++ e ∷ []) x ≡ count_below (length t) (core_event_is (is_item mode) core t) = ap (λ y. count_below y (core_event_is (is_item mode) core (t ++ e ∷ []))) new ∙ items_kept mode t e core in
        absurd (omega (arith, below, full, within core))
    | inr old ↦ (old, was mode t e test x old is, (let same : dispatched (core_at (t ++ e ∷ []) x) ≡ dispatched (core_at t x) = ap dispatched (core_kept t e x old) in omega (arith, below, same, rank_kept mode t e x old)))
  ]

  pub emptied_grown : (buffers : ℕ) (durable : Set) → AreEmptied mode buffers t dispatched durable → AreEmptied mode buffers (t ++ e ∷ []) dispatched durable
  emptied_grown buffers durable emptied p j taken begins c le same =
      let op = old_rank is_persist p taken.persist taken.gone in
      let oj = old_rank is_new_strand j begins.begins begins.gone in
      let np : strand_number mode (t ++ e ∷ []) p ≡ strand_number mode t p = number_kept t e mode p op.0 in
      let nj : strand_number mode (t ++ e ∷ []) j ≡ strand_number mode t j = number_kept t e mode j oj.0 in
      emptied p j (record { persist = op.1; gone = op.2 })
      (record { begins = oj.1; item = was mode t e (is_item mode) j oj.0 begins.item; gone = oj.2 })
      (sym (core_kept t e p op.0) ∙ c ∙ core_kept t e j oj.0)
      (omega (arith, le, np, nj))
      (ap (λ n. n % buffers) (sym np) ∙ same ∙ ap (λ n. (n + 1) % buffers) nj)
