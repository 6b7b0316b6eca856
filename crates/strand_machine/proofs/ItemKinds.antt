-- Serves clauses step and parts of Machine::step: what an item is, by the event that it stands for.
use Rattle.std.proofs.Common.{◌≡◌, ℕ, true, false, refl}
use Rattle.std.specs.Prelude.{slice_get, Some, None}
use Rattle.std.specs.declared.option.Option.{Option}
use Rattle.std.proofs.lemmas.Bool.{false_from_ne_true, false≢true}
use Rattle.strand_inputs.specs.Settings.{Settings}
use Rattle.strand_inputs.specs.declared.mode.Mode.{Mode}
use Rattle.strand_events.specs.declared.event.Event.{Event}
use Rattle.std.specs.Prelude.{List}
use Rattle.strand_events.specs.Trace.{passes, is_persist, is_barrier, is_new_strand, word_at, value_at, event_is, epoch, persist_number}
use Rattle.strand_events.proofs.PersistOrder.Epochs.{barrier_begins_none}
use Rattle.strand_rules.specs.Cycle.{State, is_item}
use Rattle.strand_rules.proofs.Buffers.Begin.{begins_none}
use Rattle.strand_queue.specs.declared.item.Item.TheVariants.{Persist, Barrier, NewStrand}
use Rattle.strand_machine.specs.Stand.{item_of}
use Rattle.strand_machine.proofs.Stand.Counts.{new_strand_item}

pub item_persist : (g : Settings) (s : State) (k : ℕ) → event_is is_persist s.now.trace k ≡ true
    → item_of g s k ≡ Persist (persist_number s.now.trace k) (word_at s.now.trace k) (value_at s.now.trace k) (epoch g.mode s.now.trace k)
item_persist g s k is = rw is refl

pub item_barrier : (g : Settings) (s : State) (k : ℕ) → event_is is_persist s.now.trace k ≡ false → event_is is_barrier s.now.trace k ≡ true → item_of g s k ≡ Barrier
item_barrier g s k no_ is = rw (no_, is) refl

pub item_begin : (g : Settings) (s : State) (k : ℕ) → event_is is_persist s.now.trace k ≡ false → event_is is_barrier s.now.trace k ≡ false → item_of g s k ≡ NewStrand
item_begin g s k no_ none = rw (no_, none) refl

pub event_persist_begins : (t : List Event) (k : ℕ) → event_is is_persist t k ≡ true → event_is is_new_strand t k ≡ false
event_persist_begins t k is = false_from_ne_true (event_is is_new_strand t k) (λ h. begins_none (slice_get t k) h is)

pub event_barrier_begins : (t : List Event) (k : ℕ) → event_is is_barrier t k ≡ true → event_is is_new_strand t k ≡ false
event_barrier_begins t k = go (slice_get t k)
  where
    go : (o : Option Event) → passes is_barrier o ≡ true → passes is_new_strand o ≡ false
    go None is = absurd (false≢true is)
    go (Some e) is = barrier_begins_none e is

pub event_item_begins : (mode : Mode) (t : List Event) (k : ℕ) → event_is (is_item mode) t k ≡ true → event_is is_persist t k ≡ false → event_is is_barrier t k ≡ false → event_is is_new_strand t k ≡ true
event_item_begins mode t k = go (slice_get t k)
  where
    go : (o : Option Event) → passes (is_item mode) o ≡ true → passes is_persist o ≡ false → passes is_barrier o ≡ false → passes is_new_strand o ≡ true
    go None is no_ none = absurd (false≢true is)
    go (Some e) is no_ none = new_strand_item mode e is no_ none
