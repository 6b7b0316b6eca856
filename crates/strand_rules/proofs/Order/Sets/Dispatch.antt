-- Serves clauses closed and joined of durable_sets_are_allowed: one more item dispatched keeps the order.
use Rattle.std.proofs.Common.{◌≡◌, ℕ, suc, ◌<◌, ◌≤◌, true, ◌⊎◌, inl, inr, List, length, Some, sym, ap, ◌∙◌, arith}
use Rattle.std.specs.Prelude.{slice_get, ◌==◌}
use Rattle.std.proofs.lemmas.Bool.{cases_eq, and_parts, eqb-true}
use Rattle.strand_inputs.specs.declared.mode.Mode.{Mode}
use Rattle.strand_events.specs.declared.event.Event.{Event}
use Rattle.strand_base.specs.Counting.{count_below}
use Rattle.strand_base.proofs.BelowBound.{list_get, count_strict, at_or_below}
use Rattle.strand_events.specs.Trace.{is_persist, core_at, event_is, core_event_is}
use Rattle.strand_events.specs.Order.{Set}
use Rattle.strand_rules.specs.Cycle.{is_item, items}
use Rattle.strand_rules.specs.DispatchedPersists.{IsInSomePart}
use Rattle.strand_inputs.specs.declared.conflict.Conflict.{Conflict}
use Rattle.strand_rules.proofs.Order.Sets.Invariant.{Ordered}
use Rattle.strand_rules.proofs.Ranks.{rank, persist_ranks, same_rank}

-- the first item of a queue isn't among the accepted persists
pub not_yet : (conflict : Conflict) (mode : Mode) (t : List Event) (dispatched : ℕ → ℕ) (buffered : Set) (flight : List ℕ) (durable : Set) → Ordered conflict mode t dispatched buffered flight durable → (core k : ℕ) → slice_get (items mode t core) (dispatched core) ≡ Some k → IsInSomePart buffered flight durable k → ⊥
not_yet conflict mode t dispatched buffered flight durable kept core k front a =
    let first = list_get (length t) (core_event_is (is_item mode) core t) (dispatched core) k front in
    let c : core_at t k ≡ core = eqb-true (core_at t k) core ((and_parts (event_is (is_item mode) t k) (core_at t k == core) first.1).1) in
    let r : rank mode t k ≡ dispatched core = ap (λ c. count_below k (core_event_is (is_item mode) c t)) c ∙ first.2 in
    omega (arith, r, kept.ranked k a, ap dispatched c)

module _ (conflict : Conflict) (mode : Mode) (t : List Event) (dispatched : ℕ → ℕ) (buffered : Set) (flight : List ℕ) (durable : Set) (kept : Ordered conflict mode t dispatched buffered flight durable) where
  module _ (core k : ℕ) (front : slice_get (items mode t core) (dispatched core) ≡ Some k) (dispatched' : ℕ → ℕ) (one : dispatched' core ≡ suc (dispatched core)) (rest : (c : ℕ) → (c ≡ core → ⊥) → dispatched' c ≡ dispatched c) (buffered' : Set) (from : (p : ℕ) → buffered' p ≡ true → ((p ≡ k) × (event_is is_persist t k ≡ true)) ⊎ (buffered p ≡ true)) (has : event_is is_persist t k ≡ true → buffered' k ≡ true) (still : (p : ℕ) → buffered p ≡ true → buffered' p ≡ true) where
    first : (k < length t) × (core_event_is (is_item mode) core t k ≡ true) × (count_below k (core_event_is (is_item mode) core t) ≡ dispatched core)
    first = list_get (length t) (core_event_is (is_item mode) core t) (dispatched core) k front

    core_k : core_at t k ≡ core
    core_k = eqb-true (core_at t k) core ((and_parts (event_is (is_item mode) t k) (core_at t k == core) first.1).1)

    no_less : (c : ℕ) → dispatched c ≤ dispatched' c
    no_less c = elim (cases_eq c core) [ inl e ↦ rw (e, one) (omega arith) | inr ne ↦ omega (arith, rest c ne) ]

    was_accepted : (p : ℕ) → IsInSomePart buffered' flight durable p → ((p ≡ k) × (event_is is_persist t k ≡ true)) ⊎ IsInSomePart buffered flight durable p
    was_accepted p (inl b) = elim (from p b) [ inl new ↦ inl new | inr old ↦ inr (inl old) ]
    was_accepted p (inr s) = inr (inr s)

    still_accepted : (p : ℕ) → IsInSomePart buffered flight durable p → IsInSomePart buffered' flight durable p
    still_accepted p (inl b) = inl (still p b)
    still_accepted p (inr s) = inr s

    within' : (c : ℕ) → dispatched' c ≤ count_below (length t) (core_event_is (is_item mode) c t)
    within' c = elim (cases_eq c core) [
      | inl e ↦ rw (e, one) (omega (arith, first.2, count_strict k k (length t) (core_event_is (is_item mode) core t) (omega arith) first.0 first.1))
      | inr ne ↦ omega (arith, rest c ne, kept.within c)
    ]

    ranked' : (p : ℕ) → IsInSomePart buffered' flight durable p → rank mode t p < dispatched' (core_at t p)
    ranked' p a = elim (was_accepted p a) [
      | inl (e, is) ↦
          let r : rank mode t k ≡ dispatched core = ap (λ c. count_below k (core_event_is (is_item mode) c t)) core_k ∙ first.2 in
          let d : dispatched' (core_at t k) ≡ suc (dispatched core) = ap dispatched' core_k ∙ one in
          rw e (omega (arith, r, d))
      | inr old ↦ omega (arith, kept.ranked p old, no_less (core_at t p))
    ]

    taken' : (p : ℕ) → event_is is_persist t p ≡ true → rank mode t p < dispatched' (core_at t p) → IsInSomePart buffered' flight durable p
    taken' p is below = elim (cases_eq (core_at t p) core) [
      | inl c ↦ elim (cases_eq (rank mode t p) (dispatched core)) [
        | inl e ↦
            let item : core_event_is (is_item mode) core t p ≡ true = ap (λ x. core_event_is (is_item mode) x t p) (sym c) ∙ persist_ranks mode t p is in
            let r : count_below p (core_event_is (is_item mode) core t) ≡ count_below k (core_event_is (is_item mode) core t) = ap (λ x. count_below p (core_event_is (is_item mode) x t)) (sym c) ∙ e ∙ sym first.2 in
            let same : p ≡ k = same_rank (core_event_is (is_item mode) core t) p k item first.1 r in
            inl (ap buffered' same ∙ has (ap (event_is is_persist t) (sym same) ∙ is))
        | inr ne ↦
            let limit : rank mode t p < suc (dispatched core) = omega (arith, below, ap dispatched' c, one) in
            let lower : rank mode t p < dispatched (core_at t p) = omega (arith, at_or_below limit ne, ap dispatched c) in
            still_accepted p (kept.taken p is lower)
      ]
      | inr ne ↦ let lower : rank mode t p < dispatched (core_at t p) = omega (arith, below, rest (core_at t p) ne) in still_accepted p (kept.taken p is lower)
    ]

    pub dispatches : Ordered conflict mode t dispatched' buffered' flight durable
    dispatches = record {
      met = kept.met;
      drained = kept.drained;
      persists = λ p a. elim (was_accepted p a) [ inl (e, is) ↦ ap (event_is is_persist t) e ∙ is | inr old ↦ kept.persists p old ];
      within = within';
      ranked = ranked';
      taken = taken';
      lower = kept.lower;
      older = kept.older;
      in_flight = kept.in_flight;
    }
