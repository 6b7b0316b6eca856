-- Serves clause step of Machine::step: the turns of dispatch, send and write by what the parts answer.
use Rattle.std.proofs.Common.{◌≡◌, ℕ, ◌+◌, ◌<◌, ◌≤◌, true, false, inl, inr, List, length, map, refl, sym, ap, ◌∙◌, arith}
use Rattle.std.specs.Prelude.{not, ◌==◌, slice_get, slice_index, Some, None, if◌then◌else◌}
use Rattle.std.specs.Option.{option_map}
use Rattle.std.specs.declared.option.Option.{Option}
use Rattle.std.proofs.lemmas.Bool.{cases_Bool, cases_eq, eq-eqb, ne_eqb, lt-ltb, le-ltb}
use Rattle.std.proofs.lemmas.List.{length-map}
use Rattle.std.proofs.lemmas.Nat.{mod_below}
use Rattle.std.proofs.lemmas.Option.{slice_get-map, slice_get-get_or, none-some, same_Some}
use Rattle.strand_base.proofs.BelowBound.{list_get}
use Rattle.strand_inputs.specs.Settings.{Settings}
use Rattle.strand_inputs.specs.declared.step.Step.TheVariants.{Dispatch, Send, Write}
use Rattle.strand_events.specs.Trace.{is_persist, is_new_strand, word_at, event_is, strand_number}
use Rattle.strand_rules.specs.declared.turn.Cause.TheVariants as causes
use Rattle.strand_rules.specs.declared.turn.Turn.TheVariants.{Done, Bubble}
use Rattle.strand_rules.specs.Visible.{Program}
use Rattle.strand_rules.specs.Cycle.{State, front, item_turn, ring_use, buffer_of, buffer_busy, eligible, send_turn, write_turn, turn}
use Rattle.strand_rules.specs.DispatchedPersists.{AreParts, FitBuffers}
use Rattle.strand_rules.proofs.Buffers.Run.{IsFit}
use Rattle.strand_buffer.specs.Entries.{is_eligible, eligible_places}
use Rattle.strand_buffer.specs.Buffers.{Buffers, list_in, next_buffer, has_room, can_begin}
use Rattle.strand_control.specs.declared.request.Request.{Request}
use Rattle.strand_control.specs.Flight as flights
use Rattle.strand_machine.specs.Lists.{listed, entry_of, entries}
use Rattle.strand_machine.specs.Stand.{request_at, requests, BuffersStand}
use Rattle.strand_machine.proofs.Lists.Eligible.{Meets, eligible_by_list, busy_by_list}
use Rattle.strand_machine.proofs.Lists.Room.{begun_by_front}
use Rattle.strand_machine.proofs.Lists.Requests.{older_by_list}
use Rattle.strand_machine.proofs.Stand.Item.{room_by_list}

-- an element of a mapped list is the image of one
pub from_map : {Y : Type 0} (f : ℕ → Y) (xs : List ℕ) (j : ℕ) (y : Y) → slice_get (map f xs) j ≡ Some y → (p : ℕ) × (slice_get xs j ≡ Some p) × (y ≡ f p)
from_map f xs j y e = go (slice_get xs j) refl (sym (slice_get-map f xs j) ∙ e)
  where
    go : (o : Option ℕ) → slice_get xs j ≡ o → option_map f o ≡ Some y → (p : ℕ) × (slice_get xs j ≡ Some p) × (y ≡ f p)
    go None at none = absurd (none-some y none)
    go (Some p) at some = (p, at, sym (same_Some (f p) y some))

from_map_none : {Y : Type 0} (f : ℕ → Y) (xs : List ℕ) (j : ℕ) → slice_get (map f xs) j ≡ None → slice_get xs j ≡ None
from_map_none f xs j e = go (slice_get xs j) refl (sym (slice_get-map f xs j) ∙ e)
  where
    go : (o : Option ℕ) → slice_get xs j ≡ o → option_map f o ≡ None → slice_get xs j ≡ None
    go None at none = at
    go (Some p) at some = absurd (none-some (f p) (sym some))

module _ (g : Settings) (prog : Program) (s : State) where
  -- a write: the request at its place, or none
  pub write_none : (j : ℕ) → slice_get (requests g s) j ≡ None → turn g prog s (Write j) ≡ Bubble causes.NoEntry
  write_none j e = ap (write_turn s j) (from_map_none (request_at g s) s.flight j e)

  pub write_found : (j : ℕ) (r : Request) → slice_get (requests g s) j ≡ Some r
      → (p : ℕ) × (slice_get s.flight j ≡ Some p) × (r ≡ request_at g s p) × (turn g prog s (Write j) ≡ if flights.older_waits (requests g s) j r.word then Bubble causes.OlderWaits else Done)
  write_found j r e =
      let found = from_map (request_at g s) s.flight j r e in
      let older : flights.older_waits (requests g s) j r.word ≡ flights.older_waits (requests g s) j (word_at s.now.trace found.0) = ap (λ (x : Request). flights.older_waits (requests g s) j x.word) found.2 in
      (found.0, found.1, found.2, ap (write_turn s j) found.1 ∙ ap (λ b. if b then Bubble causes.OlderWaits else Done) (sym (older ∙ older_by_list g s j found.0 found.1)))

  module _ (n b : ℕ) (parts : AreParts g s) (fit : FitBuffers g s) (durable : List ℕ) (meets : Meets g s durable) where
    -- a send: the eligible entry at its place among them, or none
    pub send_none : (j : ℕ) → slice_get (eligible_places durable (entries g s n b)) j ≡ None → turn g prog s (Send n b j) ≡ Bubble causes.NoEntry
    send_none j e = ap (λ xs. send_turn g s (slice_get xs j)) (eligible_by_list g s n b parts fit durable meets) ∙ ap (send_turn g s) (slice_get-map (slice_index (listed g s n b)) (eligible_places durable (entries g s n b)) j ∙ ap (option_map (slice_index (listed g s n b))) e)

    pub send_found : (j i : ℕ) → slice_get (eligible_places durable (entries g s n b)) j ≡ Some i
        → (p : ℕ) × (slice_get (eligible g s n b) j ≡ Some p) × (slice_get (entries g s n b) i ≡ Some (entry_of g s p)) × (turn g prog s (Send n b j) ≡ if length s.flight == g.flight then Bubble causes.FlightFull else Done)
    send_found j i e =
        let p : ℕ = slice_index (listed g s n b) i in
        let at : slice_get (eligible g s n b) j ≡ Some p = ap (λ xs. slice_get xs j) (eligible_by_list g s n b parts fit durable meets) ∙ slice_get-map (slice_index (listed g s n b)) (eligible_places durable (entries g s n b)) j ∙ ap (option_map (slice_index (listed g s n b))) e in
        let within = (list_get (length (entries g s n b)) (is_eligible durable (entries g s n b)) j i e).0 in
        let inside : i < length (listed g s n b) = omega (arith, within, length-map (listed g s n b) (entry_of g s)) in
        (p, at, slice_get-map (entry_of g s) (listed g s n b) i ∙ ap (option_map (entry_of g s)) (slice_get-get_or (listed g s n b) i 0 inside), ap (send_turn g s) at)

  module _ (n k : ℕ) (first : front g s n ≡ Some k) (there : n < length s.dispatched) (bs : Buffers) (stand : BuffersStand g s n bs) (some : 0 < g.buffers) where
    -- a persist is dispatched where the buffers have room
    pub dispatch_persist : IsFit g s → ring_use g s n k ≤ g.ring → event_is is_persist s.now.trace k ≡ true → event_is is_new_strand s.now.trace k ≡ false
        → turn g prog s (Dispatch n) ≡ if has_room bs then Done else Bubble causes.NoRoom
    dispatch_persist fit most is none =
        let room = room_by_list g s n k first there bs stand some fit in
        ap (item_turn g s n) first ∙ (elim (cases_eq (ring_use g s n k) g.ring) [
          | inl full ↦ rw (room, is, eq-eqb (ring_use g s n k) g.ring full, le-ltb (ring_use g s n k) g.ring (omega (arith, full))) refl
          | inr ne ↦ (let free : ring_use g s n k < g.ring = grind arith in rw (room, is, none, ne_eqb (ring_use g s n k) g.ring ne, lt-ltb (ring_use g s n k) g.ring free) refl)
        ])

    -- a strand begins where the buffers can begin it
    pub dispatch_begin : event_is is_persist s.now.trace k ≡ false → event_is is_new_strand s.now.trace k ≡ true
        → turn g prog s (Dispatch n) ≡ if can_begin bs then Done else Bubble causes.NotEmpty
    dispatch_begin no_ yes_ =
        let b : ℕ = buffer_of g (strand_number g.mode s.now.trace k + 1) in
        let at : next_buffer bs ≡ b = cc (stand.strand, begun_by_front g s n k first, stand.buffers) in
        let size : length (list_in bs (next_buffer bs)) ≡ length (listed g s n b) = ap (λ i. length (list_in bs i)) at ∙ ap length (stand.lists b (mod_below (strand_number g.mode s.now.trace k + 1) g.buffers some)) ∙ length-map (listed g s n b) (entry_of g s) in
        let empty : can_begin bs ≡ (length (listed g s n b) == 0) = ap (λ x. x == 0) size in
        let busy : buffer_busy g s n b ≡ not (length (listed g s n b) == 0) = busy_by_list g s n b in
        ap (item_turn g s n) first ∙ begin_turn no_ yes_ busy ∙ ap (λ x. if x then Done else Bubble causes.NotEmpty) (sym empty)
      where
        begin_turn : event_is is_persist s.now.trace k ≡ false → event_is is_new_strand s.now.trace k ≡ true
            → buffer_busy g s n (buffer_of g (strand_number g.mode s.now.trace k + 1)) ≡ not (length (listed g s n (buffer_of g (strand_number g.mode s.now.trace k + 1))) == 0)
            → item_turn g s n (Some k) ≡ (if length (listed g s n (buffer_of g (strand_number g.mode s.now.trace k + 1))) == 0 then Done else Bubble causes.NotEmpty)
        begin_turn no_ yes_ busy = elim (cases_Bool (length (listed g s n (buffer_of g (strand_number g.mode s.now.trace k + 1))) == 0)) [
          | inl none ↦ rw (no_, yes_, busy, none) refl
          | inr some ↦ rw (no_, yes_, busy, some) refl
        ]
