-- Serves clause eligible of StrandBuffers::eligible: what is found is an eligible entry.
use Rattle.std.proofs.Common.{◌≡◌, ℕ, true, List, length, refl}
use Rattle.std.specs.Prelude.{slice_get, Some, None, IfSome}
use Rattle.std.specs.Option.{option_map}
use Rattle.std.specs.declared.option.Option.{Option}
use Rattle.strand_base.proofs.BelowBound.{list_get}
use Rattle.strand_buffer.specs.declared.entry.Entry.{Entry}
use Rattle.strand_buffer.specs.declared.entry.Slot.{Slot}
use Rattle.strand_buffer.specs.Entries.{is_eligible, eligible_places, number_at}
use Rattle.strand_buffer.specs.Buffers.{found_slot, slot_at}

-- what is found is an eligible entry
pub found_eligible : (durable : List ℕ) (es : List Entry) (j : ℕ) → IfSome (found_slot es j durable) (λ (s : Slot). (i : ℕ) × (is_eligible durable es i ≡ true) × (number_at es i ≡ s.number))
found_eligible durable es j = go (slice_get (eligible_places durable es) j) refl
  where
    go : (o : Option ℕ) → slice_get (eligible_places durable es) j ≡ o → IfSome (option_map (slot_at es) o) (λ (s : Slot). (i : ℕ) × (is_eligible durable es i ≡ true) × (number_at es i ≡ s.number))
    go None at = tt
    go (Some i) at = (i, (list_get (length es) (is_eligible durable es) j i at).1, refl)
