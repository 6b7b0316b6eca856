-- Serves clauses closed and joined of durable_sets_are_allowed: a send keeps the order of the parts.
use Rattle.std.proofs.Common.{◌≡◌, ℕ, ◌<◌, true, false, ◌&&◌, inl, List, length, refl, ◌∙◌, arith, length-set}
use Rattle.std.specs.Prelude.{Some, None, slice_get, slice_index, nat_lt, not, ◌==◌}
use Rattle.std.specs.declared.option.Option.{Option}
use Rattle.std.proofs.lemmas.Bool.{and_parts, and_from, eq-eqb, lt-ltb, both_ways, not-true, not-false}
use Rattle.strand_base.proofs.BelowBound.{any_false, list_get}
use Rattle.strand_inputs.specs.Settings.{Settings}
use Rattle.strand_events.specs.Trace.{is_persist, is_access, word_at, event_is, same_strand, epoch}
use Rattle.strand_inputs.specs.declared.mode.Mode.{Mode}
use Rattle.strand_events.specs.declared.event.Event.{Event}
use Rattle.strand_events.specs.Order.{Set, set_of}
use Rattle.strand_rules.specs.Cycle.{State, is_lower, epoch_waits, word_waits, is_in_buffer, persist_unmet, is_eligible, eligible, send_after}
use Rattle.strand_events.proofs.PersistOrder.Epochs.{weaker, persist_access}
use Rattle.strand_inputs.specs.declared.conflict.Conflict.{Conflict}
use Rattle.strand_inputs.specs.declared.conflict.Conflict.TheVariants.{Stall, Tag}
use Rattle.strand_events.specs.Waits.{is_met}
use Rattle.strand_events.proofs.Waits.Counts.{IsMet}
use Rattle.strand_events.proofs.Waits.IsMet.{met_means}
use Rattle.strand_rules.specs.DispatchedPersists.{Older, Lower}
use Rattle.strand_events.proofs.EventWithin.{event_within}
use Rattle.strand_rules.proofs.Eligible.{eligible_marked}
use Rattle.strand_rules.proofs.MarkSets.{held_unset}
use Rattle.strand_rules.proofs.Order.Sets.Send.{sends}
use Rattle.strand_rules.proofs.Order.Apart.{send_apart}
use Rattle.strand_rules.proofs.Turns.{then_so}
use Rattle.strand_rules.proofs.Order.Invariant.{IsGood}

no_lower : (g : Settings) (s : State) (p : ℕ) → epoch_waits g s p ≡ false → (x : ℕ) → Lower g.mode s.now.trace x p → set_of s.durable x ≡ true
no_lower g s p none x l =
    let at = any_false (length s.now.trace) (λ q. is_lower g.mode s.now.trace (set_of s.durable) q p) none x (event_within is_persist s.now.trace x l.persist) in
    then_so (event_is is_persist s.now.trace x && same_strand g.mode s.now.trace x p && nat_lt (epoch g.mode s.now.trace x) (epoch g.mode s.now.trace p)) (set_of s.durable x) at
    (and_from (event_is is_persist s.now.trace x && same_strand g.mode s.now.trace x p) (nat_lt (epoch g.mode s.now.trace x) (epoch g.mode s.now.trace p))
    (and_from (event_is is_persist s.now.trace x) (same_strand g.mode s.now.trace x p) l.persist l.strand)
    (lt-ltb (epoch g.mode s.now.trace x) (epoch g.mode s.now.trace p) l.epoch))

no_older : (g : Settings) (s : State) (p : ℕ) → word_waits g s p ≡ false → (x : ℕ) → Older g.mode s.now.trace x p → set_of s.buffered x ≡ true → ⊥
no_older g s p none x o b =
    let at = any_false p (λ q. set_of s.buffered q && same_strand g.mode s.now.trace q p && (word_at s.now.trace q == word_at s.now.trace p)) none x o.earlier in
    both_ways (set_of s.buffered x && same_strand g.mode s.now.trace x p && (word_at s.now.trace x == word_at s.now.trace p)) at
    (and_from (set_of s.buffered x && same_strand g.mode s.now.trace x p) (word_at s.now.trace x == word_at s.now.trace p)
    (and_from (set_of s.buffered x) (same_strand g.mode s.now.trace x p) b o.strand)
    (eq-eqb (word_at s.now.trace x) (word_at s.now.trace p) o.word))

own_met : (conflict : Conflict) (mode : Mode) (t : List Event) (durable : Set) (p : ℕ) → (conflict ≡ Stall → IsMet mode t durable p) → persist_unmet conflict mode t durable p ≡ false → IsMet mode t durable p
own_met Stall mode t durable p stalled none = stalled refl
own_met Tag mode t durable p stalled none = met_means mode t durable p (not-false (is_met mode t durable p) none)

pub send_good : (g : Settings) (s : State) (n b j : ℕ) → IsGood g s → (o : Option ℕ) → slice_get (eligible g s n b) j ≡ o → IsGood g (send_after s o)
send_good g s n b j good None is = good
send_good g s n b j good (Some p) is =
    let found = list_get (length s.now.trace) (is_eligible g s n b) j p is in
    let zero_ = and_parts (is_in_buffer g s n b p && not (epoch_waits g s p) && not (word_waits g s p)) (not (persist_unmet g.conflict g.mode s.now.trace (set_of s.durable) p)) found.1 in
    let one = and_parts (is_in_buffer g s n b p && not (epoch_waits g s p)) (not (word_waits g s p)) zero_.0 in
    let two = and_parts (is_in_buffer g s n b p) (not (epoch_waits g s p)) one.0 in
    let marked : set_of s.buffered p ≡ true = eligible_marked g s n b p found.1 in
    let persist : event_is is_persist s.now.trace p ≡ true = good.ordered.persists p (inl marked) in
    let access : event_is is_access s.now.trace p ≡ true = weaker is_persist is_access persist_access s.now.trace p persist in
    let inside : p < length s.buffered = omega (arith, event_within is_persist s.now.trace p persist, good.buffered_marks) in
    record {
      ordered = rw (held_unset s.buffered p inside) (sends g.conflict g.mode s.now.trace (slice_index s.dispatched) (set_of s.buffered) s.flight (set_of s.durable) good.ordered p marked
          (own_met g.conflict g.mode s.now.trace (set_of s.durable) p (λ stall. good.ordered.met p access (inl stall)) (not-true (persist_unmet g.conflict g.mode s.now.trace (set_of s.durable) p) zero_.1))
          (λ x l. no_lower g s p (not-true (epoch_waits g s p) two.1) x l)
          (λ x o b. no_older g s p (not-true (word_waits g s p) one.1) x o b));
      apart = rw (held_unset s.buffered p inside) (send_apart (set_of s.buffered) s.flight (set_of s.durable) good.apart p marked);
      buffered_marks = length-set s.buffered p false ∙ good.buffered_marks;
      durable_marks = good.durable_marks;
      counts = good.counts;
      owned = good.owned;
    }
