-- Serves clause parts of Machine::step: a longer trace leaves the lists of the buffers.
use Rattle.std.proofs.Common.{◌≡◌, ℕ, ◌<◌, ◌≤◌, Bool, false, List, [], ◌∷◌, ◌++◌, length, map, refl, ap, ◌∙◌, arith}
use Rattle.std.specs.Prelude.{slice_index, ◌==◌}
use Rattle.strand_base.specs.Counting.{count_below, list_below}
use Rattle.strand_base.proofs.BelowBound.{count_agree, get_more}
use Rattle.strand_inputs.specs.Settings.{Settings}
use Rattle.strand_events.specs.declared.event.Event.{Event}
use Rattle.strand_events.specs.Trace.{value_in, is_persist, value_at, event_is, core_event_is, persist_number}
use Rattle.strand_events.specs.Order.{set_of}
use Rattle.strand_events.proofs.LongerTrace.{event_is_kept, word_kept, number_kept, epoch_kept}
use Rattle.strand_rules.specs.Cycle.{State, is_item, buffer_of}
use Rattle.strand_rules.proofs.Marks.{held_more}
use Rattle.strand_rules.proofs.MarkSets.{held_grown}
use Rattle.strand_buffer.specs.Entries.{from_open}
use Rattle.strand_machine.specs.Lists.{is_of_buffer, listed, stage_of, entry_of, entries}
use Rattle.strand_rules.proofs.Buffers.RingEvent.{state_of, accepted_kept, accepted_new}
use Rattle.strand_tags.proofs.LongerTrace.{list_grown}
use Rattle.strand_machine.proofs.Stand.PersistWaits.{wait_longer}
use Rattle.strand_machine.proofs.Lists.SendWrite.{map_on, listed_member}

module _ (g : Settings) (t : List Event) (e : Event) (dispatched : List ℕ) (buffered : List Bool) (flight : List ℕ) (durable : List Bool)
    (within : (core : ℕ) → slice_index dispatched core ≤ count_below (length t) (core_event_is (is_item g.mode) core t)) where
  abbrev before : State
  before = state_of t dispatched buffered flight durable

  abbrev then_ : State
  then_ = state_of (t ++ e ∷ []) dispatched (buffered ++ false ∷ []) flight (durable ++ false ∷ [])

  ring_kept : (n b p : ℕ) → p < length t → is_of_buffer g then_ n b p ≡ is_of_buffer g before n b p
  ring_kept n b p lt = cc (accepted_kept g t e dispatched durable within n p lt, ap (λ x. buffer_of g x == b) (number_kept t e g.mode p lt))

  entry_kept : (p : ℕ) → p < length t → entry_of g then_ p ≡ entry_of g before p
  entry_kept p lt =
      let number : persist_number (t ++ e ∷ []) p ≡ persist_number t p = count_agree p (event_is is_persist (t ++ e ∷ [])) (event_is is_persist t) (λ k below. event_is_kept t e is_persist k (omega arith)) in
      let value : value_at (t ++ e ∷ []) p ≡ value_at t p = ap value_in (get_more t e p lt) in
      let stage : stage_of then_ p ≡ stage_of before p = cc (held_more durable p, held_more buffered p) in
      cc (number, value, stage, word_kept t e p lt, epoch_kept t e g.mode p lt, wait_longer g.conflict g.mode t e p lt)

  listed_kept : (n b : ℕ) → listed g then_ n b ≡ listed g before n b
  listed_kept n b =
      let out : is_of_buffer g then_ n b (length t) ≡ false = rw (accepted_new g t e dispatched durable within n (length t) (omega arith)) refl in
      let members : list_below (length (t ++ e ∷ [])) (is_of_buffer g then_ n b) ≡ list_below (length t) (is_of_buffer g before n b) = list_grown t e (is_of_buffer g then_ n b) (is_of_buffer g before n b) (λ k lt. ring_kept n b k lt) ∙ (rw out refl) in
      ap (λ done. from_open done (list_below (length (t ++ e ∷ [])) (is_of_buffer g then_ n b))) (held_grown durable) ∙ ap (from_open (set_of durable)) members

  -- a new event changes no list
  pub entries_longer : (n b : ℕ) → entries g then_ n b ≡ entries g before n b
  entries_longer n b = ap (map (entry_of g then_)) (listed_kept n b) ∙ map_on (entry_of g then_) (entry_of g before) (listed g before n b) (λ i q at. entry_kept q (listed_member g before n b i q at).0)
