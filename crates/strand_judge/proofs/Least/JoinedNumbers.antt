-- Serves judge, by mark_joined: joined persists by their numbers.
use Rattle.std.proofs.Common.{◌≡◌, ℕ, ◌<◌, true, List, length, Some, sym, ap, ◌∙◌, arith}
use Rattle.std.specs.Prelude.{slice_get, slice_index}
use Rattle.std.proofs.lemmas.Bool.{and_parts}
use Rattle.std.proofs.lemmas.Option.{slice_get-get_or, get_or_from_slice_get, slice_get_within}
use Rattle.strand_base.proofs.BelowBound.{list_get}
use Rattle.strand_events.specs.declared.event.Event.{Event}
use Rattle.strand_events.specs.Trace.{is_persist, is_join, core_at, event_is, persists_of}
use Rattle.strand_events.specs.Order.{is_joined, stands_between}
use Rattle.strand_events.specs.Numbers.{numbers_of}
use Rattle.strand_order.proofs.Edges.List.{list_has}
use Rattle.strand_events.proofs.EventWithin.{event_within}

module _ (t : List Event) where
  pub joined_persist : (k : ℕ) → is_joined t k ≡ true → event_is is_persist t k ≡ true
  joined_persist k h = (and_parts (event_is is_persist t k) (stands_between is_join (core_at t k) t k (length t)) h).0

  pub joined_within : (k : ℕ) → is_joined t k ≡ true → k < length t
  joined_within k h = event_within is_persist t k (joined_persist k h)

  -- a persist's number names it
  pub persist_within : (p : ℕ) → p < length (persists_of t) → slice_index (persists_of t) p < length t
  persist_within p lt = (list_get (length t) (event_is is_persist t) p (slice_index (persists_of t) p) (slice_get-get_or (persists_of t) p 0 lt)).0

  pub joined_at : (persists joined : List ℕ) → persists ≡ persists_of t → joined ≡ numbers_of t (is_joined t) → (m : ℕ) → m < length joined → (slice_index joined m < length persists) × (is_joined t (slice_index persists (slice_index joined m)) ≡ true)
  joined_at persists joined same same' m lt =
      let at : slice_get (numbers_of t (is_joined t)) m ≡ Some (slice_index joined m) = sym (ap (λ xs. slice_get xs m) same') ∙ slice_get-get_or joined m 0 lt in
      let found = list_get (length (persists_of t)) (λ p. is_joined t (slice_index (persists_of t) p)) m (slice_index joined m) at in
      (omega (arith, found.0, ap length same), ap (λ xs. is_joined t (slice_index xs (slice_index joined m))) same ∙ found.1)

  -- each joined persist is named
  pub joined_named : (persists joined : List ℕ) → persists ≡ persists_of t → joined ≡ numbers_of t (is_joined t) → (k : ℕ) → is_joined t k ≡ true → (m : ℕ) × (m < length joined) × (slice_index persists (slice_index joined m) ≡ k)
  joined_named persists joined same same' k h =
      let number = list_has (length t) (event_is is_persist t) k (joined_within k h) (joined_persist k h) in
      let here : slice_index (persists_of t) number.0 ≡ k = get_or_from_slice_get (persists_of t) number.0 k 0 number.1 in
      let place = list_has (length (persists_of t)) (λ p. is_joined t (slice_index (persists_of t) p)) number.0 (slice_get_within (persists_of t) number.0 k number.1) (ap (is_joined t) here ∙ h) in
      let named : slice_index (numbers_of t (is_joined t)) place.0 ≡ number.0 = get_or_from_slice_get (numbers_of t (is_joined t)) place.0 number.0 0 place.1 in
      let within : place.0 < length joined = omega (arith, ap length same', slice_get_within (numbers_of t (is_joined t)) place.0 number.0 place.1) in
      (place.0, within, ap (λ xs. slice_index xs (slice_index joined place.0)) same ∙ ap (λ xs. slice_index (persists_of t) (slice_index xs place.0)) same' ∙ ap (slice_index (persists_of t)) named ∙ here)
