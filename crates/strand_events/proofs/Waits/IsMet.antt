-- Serves clauses prefixes and earlier of waits_are_met_by_prefixes: the test of a wait and its meaning.
use Rattle.std.proofs.Common.{◌≡◌, ℕ, suc, Bool, true, false, ◌&&◌, List, [], ◌∷◌, ◌++◌, length, refl, sym, ap, ◌∙◌, arith, length-append}
use Rattle.std.specs.Prelude.{not, nat_lt}
use Rattle.std.proofs.lemmas.Bool.{and_parts, and_from, ltb-true, lt-ltb, not-true, false_from_ne_true, true≢false}
use Rattle.strand_base.specs.Counting.{any_below}
use Rattle.strand_base.proofs.BelowBound.{any_true, any_false}
use Rattle.strand_inputs.specs.declared.mode.Mode.{Mode}
use Rattle.strand_events.specs.declared.event.Event.{Event}
use Rattle.strand_events.specs.Trace.{is_persist, core_at, event_is}
use Rattle.strand_events.specs.Order.{Set}
use Rattle.strand_events.specs.Prefixes.{made_below}
use Rattle.strand_events.specs.Waits.{wait, wait_counts, is_met}
use Rattle.strand_events.proofs.Waits.Counts.{Counts, IsMet}
use Rattle.strand_events.proofs.EventWithin.{event_within}

pub length_grown : (t : List Event) (e : Event) → length (t ++ e ∷ []) ≡ suc (length t)
length_grown t e = rw length-append (omega arith)

-- x && not y fails although x holds
then_so : (x y : Bool) → (x && not y) ≡ false → x ≡ true → y ≡ true
then_so true true h e = refl
then_so true false h e = absurd (true≢false h)
then_so false y h e = absurd (true≢false (sym e))

module _ (mode : Mode) (t : List Event) where
  pub counts_from : (x p : ℕ) → event_is is_persist t p ≡ true → Counts mode t x p → wait_counts mode t x p ≡ true
  counts_from x p is counted = and_from (event_is is_persist t p) (nat_lt (made_below t (core_at t p) p) (wait mode t (core_at t p) x)) is (lt-ltb (made_below t (core_at t p) p) (wait mode t (core_at t p) x) counted)

  pub counts_means : (x p : ℕ) → wait_counts mode t x p ≡ true → (event_is is_persist t p ≡ true) × Counts mode t x p
  counts_means x p h = let parts = and_parts (event_is is_persist t p) (nat_lt (made_below t (core_at t p) p) (wait mode t (core_at t p) x)) h in (parts.0, ltb-true (made_below t (core_at t p) p) (wait mode t (core_at t p) x) parts.1)

  pub met_means : (durable : Set) (x : ℕ) → is_met mode t durable x ≡ true → IsMet mode t durable x
  met_means durable x h p is counted =
      let none : any_below (length t) (λ p. wait_counts mode t x p && not (durable p)) ≡ false = not-true (any_below (length t) (λ p. wait_counts mode t x p && not (durable p))) h in
      then_so (wait_counts mode t x p) (durable p) (any_false (length t) (λ p. wait_counts mode t x p && not (durable p)) none p (event_within is_persist t p is)) (counts_from x p is counted)

  pub met_from : (durable : Set) (x : ℕ) → IsMet mode t durable x → is_met mode t durable x ≡ true
  met_from durable x met = ap not (false_from_ne_true (any_below (length t) (λ p. wait_counts mode t x p && not (durable p))) (λ some.
      let found = any_true (length t) (λ p. wait_counts mode t x p && not (durable p)) some in
      let parts = and_parts (wait_counts mode t x found.0) (not (durable found.0)) found.2 in
      let counted = counts_means x found.0 parts.0 in
      true≢false (sym (met found.0 counted.0 counted.1) ∙ not-true (durable found.0) parts.1)))
