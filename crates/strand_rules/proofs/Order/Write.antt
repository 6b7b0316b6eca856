-- Serves clauses closed and joined of durable_sets_are_allowed: a write keeps the order of the parts.
use Rattle.std.proofs.Common.{◌≡◌, ℕ, ◌<◌, true, false, inl, inr, length, ap, ◌∙◌, arith, length-set}
use Rattle.std.specs.Prelude.{Some, None, slice_get, slice_index}
use Rattle.std.specs.declared.option.Option.{Option}
use Rattle.std.proofs.lemmas.Bool.{eq-eqb, both_ways}
use Rattle.std.proofs.lemmas.Option.{get_or_from_slice_get}
use Rattle.strand_base.proofs.BelowBound.{any_false}
use Rattle.strand_inputs.specs.Settings.{Settings}
use Rattle.strand_events.specs.Trace.{is_persist, word_at}
use Rattle.strand_events.specs.Order.{set_of}
use Rattle.strand_rules.specs.declared.turn.Cause.TheVariants as causes
use Rattle.strand_rules.specs.declared.turn.Turn.TheVariants.{Done}
use Rattle.strand_rules.specs.Cycle.{State, has_word_of, older_waits, write_turn, write_after}
use Rattle.strand_events.proofs.EventWithin.{event_within}
use Rattle.strand_rules.proofs.MarkSets.{held_set}
use Rattle.strand_rules.proofs.Order.Sets.Write.{writes}
use Rattle.strand_rules.proofs.Order.Apart.{write_apart}
use Rattle.strand_rules.proofs.Turns.{if_done}
use Rattle.strand_rules.proofs.Order.Invariant.{IsGood}

no_older_request : (s : State) (j p : ℕ) → older_waits s j p ≡ false → (h x : ℕ) → h < j → slice_get s.flight h ≡ Some x → word_at s.now.trace x ≡ word_at s.now.trace p → ⊥
no_older_request s j p none h x lt at word =
    let off : has_word_of s p h ≡ false = any_false j (has_word_of s p) none h lt in
    let is : slice_index s.flight h ≡ x = get_or_from_slice_get s.flight h x 0 at in
    both_ways (has_word_of s p h) off (eq-eqb (word_at s.now.trace (slice_index s.flight h)) (word_at s.now.trace p) (ap (word_at s.now.trace) is ∙ word))

pub write_good : (g : Settings) (s : State) (j : ℕ) → IsGood g s → (o : Option ℕ) → slice_get s.flight j ≡ o → write_turn s j o ≡ Done → IsGood g (write_after s j o)
write_good g s j good None is done = good
write_good g s j good (Some p) is done =
    let inside : p < length s.durable = omega (arith, event_within is_persist s.now.trace p (good.ordered.persists p (inr (inl (j, is)))), good.durable_marks) in
    record {
      ordered = rw (held_set s.durable p inside) (writes g.conflict g.mode s.now.trace (slice_index s.dispatched) (set_of s.buffered) s.flight (set_of s.durable) good.ordered j p is
          (no_older_request s j p ((if_done (older_waits s j p) causes.OlderWaits Done done).0)));
      apart = rw (held_set s.durable p inside) (write_apart (set_of s.buffered) s.flight (set_of s.durable) good.apart j p is);
      buffered_marks = good.buffered_marks;
      durable_marks = length-set s.durable p true ∙ good.durable_marks;
      counts = good.counts;
      owned = good.owned;
    }
