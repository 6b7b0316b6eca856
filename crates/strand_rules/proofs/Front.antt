-- Serves clause step of PlainMachine::step: which persists are dispatched where an item is the first of its queue.
use Rattle.std.proofs.Common.{◌≡◌, ℕ, zero, suc, ◌<◌, ◌≤◌, Bool, true, false, ◌&&◌, ◌||◌, List, length, refl, sym, ap, ◌∙◌, arith, inl, inr}
use Rattle.std.specs.Prelude.{not, nat_lt, Some, ◌==◌}
use Rattle.std.proofs.lemmas.Bool.{cases_eq, and_from, or_left, lt-ltb, le-ltb, true≢false}
use Rattle.strand_base.specs.Counting.{count_below, any_below}
use Rattle.strand_base.proofs.BelowBound.{any_agree, count_agree, count_flat, list_get, count_strict, count_mono}
use Rattle.strand_inputs.specs.Settings.{Settings}
use Rattle.strand_inputs.specs.declared.mode.Mode.{Mode}
use Rattle.strand_inputs.specs.declared.mode.Mode.TheVariants.{Strict, Epoch, Strand}
use Rattle.strand_events.specs.declared.event.Event.{Event}
use Rattle.strand_events.specs.Trace.{is_persist, is_barrier, is_new_strand, event_is, core_event_is, core_at, strand_number, same_strand}
use Rattle.strand_events.specs.Order.{set_of}
use Rattle.strand_events.proofs.PersistOrder.Epochs.{weaker}
use Rattle.strand_events.proofs.TraceInvariant.{count_most}
use Rattle.strand_rules.specs.Cycle.{State, is_item, gone, front, is_accepted, is_of_ring, ring_use, buffer_of, buffer_busy}
use Rattle.strand_rules.specs.Looking.{is_of_strand, is_open, is_in_use, is_busy}

-- a persist is an item in every mode
pub persist_item : (mode : Mode) (e : Event) → is_persist e ≡ true → is_item mode e ≡ true
persist_item Strict e is = is
persist_item Epoch e is = or_left (is_persist e) (is_barrier e) is
persist_item Strand e is = or_left (is_persist e || is_barrier e) (is_new_strand e) (or_left (is_persist e) (is_barrier e) is)

-- of an item, of the core, dispatched and a persist, the last and the core tell the others
implied_dropped : (a c l q : Bool) → (q ≡ true → a ≡ true) → (q ≡ true → c ≡ true → l ≡ true) → (a && c && l && q) ≡ (q && c)
implied_dropped false c l true h h' = absurd (true≢false (sym (h refl)))
implied_dropped false c l false h h' = refl
implied_dropped true false l true h h' = refl
implied_dropped true false l false h h' = refl
implied_dropped true true true true h h' = refl
implied_dropped true true true false h h' = refl
implied_dropped true true false true h h' = absurd (true≢false (sym (h' refl refl)))
implied_dropped true true false false h h' = refl

untold : (a c l q : Bool) → l ≡ false → (a && c && l && q) ≡ false
untold false c l q e = refl
untold true false l q e = refl
untold true true l q e = rw e refl

pub any_flat : (i j : ℕ) (f : ℕ → Bool) → i ≤ j → ((k : ℕ) → i ≤ k → k < j → f k ≡ false) → any_below j f ≡ any_below i f
any_flat i zero f le none = let e : i ≡ 0 = omega arith in rw e refl
any_flat i (suc j) f le none = elim (cases_eq i (suc j)) [
  | inl e ↦ rw e refl
  | inr ne ↦ let below : i ≤ j = grind arith in rw (none j below (omega arith)) (any_flat i j f below (λ k a b. none k a (omega arith)))
]

module _ (g : Settings) (s : State) (n k : ℕ) (first : front g s n ≡ Some k) where
  abbrev item : ℕ → Bool
  item p = core_event_is (is_item g.mode) n s.now.trace p

  pub found : (k < length s.now.trace) × (item k ≡ true) × (count_below k item ≡ gone s n)
  found = list_get (length s.now.trace) item (gone s n) k first

  -- the persists of the core before the first item of its queue are those that were dispatched
  accepted_before : (p : ℕ) → p < k → is_accepted g s n p ≡ core_event_is is_persist n s.now.trace p
  accepted_before p lt =
      let as_item = λ (is : event_is is_persist s.now.trace p ≡ true). weaker is_persist (is_item g.mode) (persist_item g.mode) s.now.trace p is in
      implied_dropped (event_is (is_item g.mode) s.now.trace p) (core_at s.now.trace p == n) (nat_lt (count_below p item) (gone s n)) (event_is is_persist s.now.trace p) as_item
      (λ is own. let passes : item p ≡ true = and_from (event_is (is_item g.mode) s.now.trace p) (core_at s.now.trace p == n) (as_item is) own in
      lt-ltb (count_below p item) (gone s n) (omega (arith, count_strict p p k item (omega arith) lt passes, found.2)))

  pub accepted_past : (p : ℕ) → k ≤ p → is_accepted g s n p ≡ false
  accepted_past p le = untold (event_is (is_item g.mode) s.now.trace p) (core_at s.now.trace p == n) (nat_lt (count_below p item) (gone s n)) (event_is is_persist s.now.trace p)
      (le-ltb (count_below p item) (gone s n) (omega (arith, count_mono k p item le, found.2)))

  ring_before : (p : ℕ) → p < k → is_of_ring g s n k p ≡ is_of_strand g.mode s.now.trace n k p
  ring_before p lt = ap (λ b. b && same_strand g.mode s.now.trace p k) (accepted_before p lt)

  pub ring_uses : ring_use g s n k ≡ count_below k (is_in_use g.mode s.now.trace (set_of s.durable) n k)
  ring_uses =
      let counted = λ (p : ℕ). is_of_ring g s n k p && any_below (suc p) (λ q. is_of_ring g s n k q && not (set_of s.durable q)) in
      count_flat k (length s.now.trace) counted (omega (arith, found.0)) (λ p le lt. rw (accepted_past p le) refl)
      ∙ count_agree k counted (is_in_use g.mode s.now.trace (set_of s.durable) n k)
      (λ p lt. cc (ring_before p lt, any_agree (suc p) (λ q. is_of_ring g s n k q && not (set_of s.durable q)) (is_open g.mode s.now.trace (set_of s.durable) n k) (λ q below. ap (λ b. b && not (set_of s.durable q)) (ring_before q (omega arith)))))

  pub buffer_uses : (b : ℕ) → buffer_busy g s n b ≡ any_below k (is_busy g.mode g.buffers s.now.trace (set_of s.durable) n b)
  buffer_uses b =
      let busy = λ (p : ℕ). is_accepted g s n p && (buffer_of g (strand_number g.mode s.now.trace p) == b) && not (set_of s.durable p) in
      any_flat k (length s.now.trace) busy (omega (arith, found.0)) (λ p le lt. rw (accepted_past p le) refl)
      ∙ any_agree k busy (is_busy g.mode g.buffers s.now.trace (set_of s.durable) n b) (λ p lt. rw (accepted_before p lt) refl)

  pub front_within : k < length s.now.trace
  front_within = found.0

  pub front_few : gone s n < length s.now.trace
  front_few = omega (arith, found.0, found.2, count_most k item)

pub number_most : (mode : Mode) (t : List Event) (k : ℕ) → strand_number mode t k ≤ k
number_most Strict t k = omega arith
number_most Epoch t k = omega arith
number_most Strand t k = count_most k (core_event_is is_new_strand (core_at t k) t)
