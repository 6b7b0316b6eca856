-- Serves clause step of PlainMachine::step: the rule of conflicts in the longer trace and for the next event are one.
use Rattle.std.proofs.Common.{◌≡◌, ℕ, ◌+◌, ◌≤◌, ◌&&◌, List, [], ◌∷◌, ◌++◌, length, refl, ap, ◌∙◌, arith}
use Rattle.std.specs.Prelude.{not}
use Rattle.strand_inputs.specs.declared.mode.Mode.{Mode}
use Rattle.strand_inputs.specs.declared.mode.Mode.TheVariants.{Strict, Epoch, Strand}
use Rattle.strand_base.specs.Counting.{count_below}
use Rattle.strand_base.proofs.BelowBound.{any_agree, count_agree, get_last}
use Rattle.strand_events.specs.declared.event.Event.{Event}
use Rattle.strand_events.specs.Trace.{passes, word_in, core_in, is_persist, is_store, is_access, is_new_strand, core_of, core_at, core_event_is, strand_number, same_strand}
use Rattle.strand_events.specs.Order.{Set, conflicts}
use Rattle.strand_events.proofs.LongerTrace.{event_is_kept, core_kept, word_kept, core_event_kept, number_kept}
use Rattle.strand_rules.specs.Cycle.{some_wait, must_wait}
use Rattle.strand_rules.specs.Looking.{next_strand, holds_up, must_stall}

pub core_new : (t : List Event) (e : Event) → core_at (t ++ e ∷ []) (length t) ≡ core_of e
core_new t e = ap core_in (get_last t e)

pub number_new : (mode : Mode) (t : List Event) (e : Event) → strand_number mode (t ++ e ∷ []) (length t) ≡ next_strand mode t (core_of e)
number_new Strict t e = refl
number_new Epoch t e = refl
number_new Strand t e = ap (λ c. count_below (length t) (core_event_is is_new_strand c (t ++ e ∷ []))) (core_new t e) ∙ count_agree (length t) (core_event_is is_new_strand (core_of e) (t ++ e ∷ [])) (core_event_is is_new_strand (core_of e) t) (λ k lt. core_event_kept t e is_new_strand (core_of e) k lt)

wait_same : (t : List Event) (e : Event) (durable : Set) (core n : ℕ) → n ≤ length t → some_wait (t ++ e ∷ []) durable core n ≡ some_wait t durable core n
wait_same t e durable core n le = any_agree n (λ p. core_event_is is_persist core (t ++ e ∷ []) p && not (durable p)) (λ p. core_event_is is_persist core t p && not (durable p)) (λ p lt. ap (λ b. b && not (durable p)) (core_event_kept t e is_persist core p (omega arith)))

-- the rule for the next event is the rule in the trace with it
pub stalls : (mode : Mode) (t : List Event) (durable : Set) (e : Event) → must_wait mode (t ++ e ∷ []) durable (length t) ≡ must_stall mode t durable e
stalls mode t durable e = any_agree (length t) (λ a. conflicts (t ++ e ∷ []) a (length t) && not (same_strand mode (t ++ e ∷ []) a (length t)) && some_wait (t ++ e ∷ []) durable (core_at (t ++ e ∷ []) a) (a + 1)) (holds_up mode t durable e) (λ a lt.
    let upto : a + 1 ≤ length t = omega arith in
    cc (event_is_kept t e is_access a lt, ap (passes is_access) (get_last t e), word_kept t e a lt, ap word_in (get_last t e), event_is_kept t e is_store a lt, ap (passes is_store) (get_last t e), core_kept t e a lt, core_new t e, number_kept t e mode a lt, number_new mode t e, wait_same t e durable (core_at t a) (a + 1) upto))
