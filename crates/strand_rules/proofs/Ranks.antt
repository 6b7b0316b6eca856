-- Serves clauses closed and joined of durable_sets_are_allowed: a persist's rank among the items of its core.
use Rattle.std.proofs.Common.{◌≡◌, ℕ, ◌≤◌, Bool, true, inl, inr, List, refl, arith}
use Rattle.std.specs.Prelude.{◌==◌}
use Rattle.std.proofs.lemmas.Bool.{cases_order, and_from, eq-eqb}
use Rattle.strand_inputs.specs.declared.mode.Mode.{Mode}
use Rattle.strand_events.specs.declared.event.Event.{Event}
use Rattle.strand_base.specs.Counting.{count_below}
use Rattle.strand_base.proofs.BelowBound.{count_mono, count_strict}
use Rattle.strand_events.specs.Trace.{is_persist, core_at, event_is, core_event_is}
use Rattle.strand_events.proofs.PersistOrder.Epochs.{weaker}
use Rattle.strand_rules.specs.Cycle.{is_item}
use Rattle.strand_rules.proofs.Front.{persist_item}

-- how many items of its core come before event p
abbrev pub rank : Mode → List Event → ℕ → ℕ
rank mode t p = count_below p (core_event_is (is_item mode) (core_at t p) t)

pub persist_ranks : (mode : Mode) (t : List Event) (p : ℕ) → event_is is_persist t p ≡ true → core_event_is (is_item mode) (core_at t p) t p ≡ true
persist_ranks mode t p h = and_from (event_is (is_item mode) t p) (core_at t p == core_at t p) (weaker is_persist (is_item mode) (persist_item mode) t p h) (eq-eqb (core_at t p) (core_at t p) refl)

-- two numbers that pass and have as many before them are one
pub same_rank : (f : ℕ → Bool) (p q : ℕ) → f p ≡ true → f q ≡ true → count_below p f ≡ count_below q f → p ≡ q
same_rank f p q yes_p yes_q same = elim (cases_order p q) [
  | inl e ↦ e
  | inr others ↦ elim others [
    | inl lt ↦ absurd (omega (arith, count_strict p p q f (omega arith) lt yes_p))
    | inr gt ↦ absurd (omega (arith, count_strict q q p f (omega arith) gt yes_q))
  ]
]

-- an earlier persist of a persist's core has no more items before it
pub rank_earlier : (mode : Mode) (t : List Event) (p q : ℕ) → core_at t p ≡ core_at t q → p ≤ q → rank mode t p ≤ rank mode t q
rank_earlier mode t p q c le = rw c (count_mono p q (core_event_is (is_item mode) (core_at t q) t) le)
