-- Serves clauses closed and joined of durable_sets_are_allowed: what they follow from.
-- What every step keeps of the trace, the counts of dispatched items and the three parts.
use Rattle.std.proofs.Common.{◌≡◌, ℕ, ◌<◌, ◌≤◌, true, ◌⊎◌, inl, inr, List, length, Some, ap, ◌∙◌, arith}
use Rattle.std.specs.Prelude.{slice_get}
use Rattle.std.proofs.lemmas.Bool.{cases_eq}
use Rattle.strand_inputs.specs.declared.mode.Mode.{Mode}
use Rattle.strand_events.specs.declared.event.Event.{Event}
use Rattle.strand_base.specs.Counting.{count_below}
use Rattle.strand_events.specs.Trace.{is_persist, is_access, core_at, event_is, core_event_is}
use Rattle.strand_events.specs.Order.{Set, is_joined, IsDownwardClosed}
use Rattle.strand_events.proofs.PersistOrder.Epochs.{weaker, persist_access}
use Rattle.strand_events.proofs.PersistOrder.Chain.{Reaches}
use Rattle.strand_inputs.specs.declared.conflict.Conflict.{Conflict}
use Rattle.strand_inputs.specs.declared.conflict.Conflict.TheVariants.{Stall}
use Rattle.strand_events.proofs.Waits.Counts.{Counts, IsMet}
use Rattle.strand_events.proofs.Waits.OtherStrands.{waits_count}
use Rattle.strand_rules.specs.Cycle.{is_item}
use Rattle.strand_rules.specs.DispatchedPersists.{IsInSomePart, Sent, Older, Lower}
use Rattle.strand_rules.proofs.Ranks.{rank}

pub record Ordered (conflict : Conflict) (mode : Mode) (t : List Event) (dispatched : ℕ → ℕ) (buffered : Set) (flight : List ℕ) (durable : Set) : Type 0 where
  -- the wait of each persist in flight or durable is met, and under stall that of every access
  pub met : (b : ℕ) → event_is is_access t b ≡ true → (conflict ≡ Stall) ⊎ Sent flight durable b → IsMet mode t durable b
  -- what a core persisted before its last join is durable
  pub drained : (p : ℕ) → is_joined t p ≡ true → durable p ≡ true
  -- the parts hold exactly the dispatched persists
  pub persists : (p : ℕ) → IsInSomePart buffered flight durable p → event_is is_persist t p ≡ true
  pub within : (core : ℕ) → dispatched core ≤ count_below (length t) (core_event_is (is_item mode) core t)
  pub ranked : (p : ℕ) → IsInSomePart buffered flight durable p → rank mode t p < dispatched (core_at t p)
  pub taken : (p : ℕ) → event_is is_persist t p ≡ true → rank mode t p < dispatched (core_at t p) → IsInSomePart buffered flight durable p
  -- a persist is sent after those of lower epochs are durable, and written after older ones of its word
  pub lower : (p q : ℕ) → Sent flight durable q → Lower mode t p q → durable p ≡ true
  pub older : (p q : ℕ) → durable q ≡ true → Older mode t p q → durable p ≡ true
  pub in_flight : (i p q : ℕ) → slice_get flight i ≡ Some q → Older mode t p q → (durable p ≡ true) ⊎ ((h : ℕ) × (h < i) × (slice_get flight h ≡ Some p))

-- the durable set is downward-closed
pub closed : (conflict : Conflict) (mode : Mode) (t : List Event) (dispatched : ℕ → ℕ) (buffered : Set) (flight : List ℕ) (durable : Set) → Ordered conflict mode t dispatched buffered flight durable → IsDownwardClosed mode t durable
closed conflict mode t dispatched buffered flight durable kept p q is before done = go (waits_count mode t p q is before)
  where
    go : Reaches mode t (λ x b. Counts mode t b x) p q → durable p ≡ true
    go (inl counted) = kept.met q (weaker is_persist is_access persist_access t q (kept.persists q (inr (inr done)))) (inr (inr done)) p is counted
    go (inr (same, le, inl low)) = kept.lower p q (inr done) (record { persist = is; strand = same; epoch = low })
    go (inr (same, le, inr word)) = elim (cases_eq p q) [ inl e ↦ ap durable e ∙ done | inr ne ↦ kept.older p q done (record { persist = is; earlier = grind arith; strand = same; word = word }) ]
