-- Serves clauses closed and joined of durable_sets_are_allowed: a dispatch keeps the order of the parts.
use Rattle.std.proofs.Common.{◌≡◌, ℕ, suc, ◌+◌, ◌<◌, Bool, true, false, ◌⊎◌, inl, inr, List, length, refl, sym, ap, ◌∙◌, arith, length-set}
use Rattle.std.specs.Prelude.{Some, None, slice_set, slice_index, if◌then◌else◌, ◌==◌}
use Rattle.std.specs.declared.option.Option.{Option}
use Rattle.std.proofs.lemmas.Bool.{and_parts, eqb-true, false≢true}
use Rattle.strand_base.proofs.BelowBound.{list_get}
use Rattle.strand_inputs.specs.Settings.{Settings}
use Rattle.strand_events.specs.Trace.{is_persist, core_at, event_is, core_event_is}
use Rattle.strand_events.specs.Order.{set_of}
use Rattle.strand_rules.specs.Cycle.{State, is_item, gone, front, item_after}
use Rattle.strand_rules.proofs.MarkSets.{held_set, number_set, number_other}
use Rattle.strand_rules.proofs.Sets.{with_cases, with_same, with_old}
use Rattle.strand_rules.proofs.Order.Sets.Dispatch.{dispatches, not_yet}
use Rattle.strand_rules.proofs.Order.Apart.{dispatch_apart}
use Rattle.strand_rules.proofs.Order.Invariant.{IsGood}

set_from : (b : Bool) (k : ℕ) (marks : List Bool) → k < length marks → (p : ℕ) → set_of (if b then slice_set marks k true else marks) p ≡ true → ((p ≡ k) × (b ≡ true)) ⊎ (set_of marks p ≡ true)
set_from true k marks lt p h = elim (with_cases k (set_of marks) p (sym (ap (λ f. f p) (held_set marks k lt)) ∙ h)) [ inl e ↦ inl (e, refl) | inr old ↦ inr old ]
set_from false k marks lt p h = inr h

set_has : (b : Bool) (k : ℕ) (marks : List Bool) → k < length marks → b ≡ true → set_of (if b then slice_set marks k true else marks) k ≡ true
set_has true k marks lt h = ap (λ f. f k) (held_set marks k lt) ∙ with_same k (set_of marks) k refl
set_has false k marks lt h = absurd (false≢true h)

set_still : (b : Bool) (k : ℕ) (marks : List Bool) → k < length marks → (p : ℕ) → set_of marks p ≡ true → set_of (if b then slice_set marks k true else marks) p ≡ true
set_still true k marks lt p h = ap (λ f. f p) (held_set marks k lt) ∙ with_old k (set_of marks) p h
set_still false k marks lt p h = h

set_length : (b : Bool) (k : ℕ) (marks : List Bool) → length (if b then slice_set marks k true else marks) ≡ length marks
set_length true k marks = length-set marks k true
set_length false k marks = refl

pub item_good : (g : Settings) (s : State) (n : ℕ) → IsGood g s → (o : Option ℕ) → front g s n ≡ o → IsGood g (item_after s n o)
item_good g s n good None is = good
item_good g s n good (Some k) is =
    let item = list_get (length s.now.trace) (core_event_is (is_item g.mode) n s.now.trace) (gone s n) k is in
    let c : core_at s.now.trace k ≡ n = eqb-true (core_at s.now.trace k) n ((and_parts (event_is (is_item g.mode) s.now.trace k) (core_at s.now.trace k == n) item.1).1) in
    let there : n < length s.dispatched = omega (arith, good.owned k item.0, c, good.counts) in
    let inside : k < length s.buffered = omega (arith, item.0, good.buffered_marks) in
    let persist : Bool = event_is is_persist s.now.trace k in
    record {
      ordered = dispatches g.conflict g.mode s.now.trace (slice_index s.dispatched) (set_of s.buffered) s.flight (set_of s.durable) good.ordered n k is
          (slice_index (slice_set s.dispatched n (gone s n + 1)))
          (let one : gone s n + 1 ≡ suc (gone s n) = omega arith in number_set s.dispatched n (gone s n + 1) there ∙ one)
          (λ c ne. number_other s.dispatched n c (gone s n + 1) ne)
          (set_of (if persist then slice_set s.buffered k true else s.buffered))
          (set_from persist k s.buffered inside)
          (set_has persist k s.buffered inside)
          (set_still persist k s.buffered inside);
      apart = dispatch_apart (set_of s.buffered) s.flight (set_of s.durable) good.apart k
          (λ sent. not_yet g.conflict g.mode s.now.trace (slice_index s.dispatched) (set_of s.buffered) s.flight (set_of s.durable) good.ordered n k is (inr sent))
          (set_of (if persist then slice_set s.buffered k true else s.buffered))
          (λ p b. elim (set_from persist k s.buffered inside p b) [ inl (e, isp) ↦ inl e | inr old ↦ inr old ]);
      buffered_marks = set_length persist k s.buffered ∙ good.buffered_marks;
      durable_marks = good.durable_marks;
      counts = length-set s.dispatched n (gone s n + 1) ∙ good.counts;
      owned = good.owned;
    }
