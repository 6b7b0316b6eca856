-- Serves clauses step and parts of Machine::step: what is known of the persists that wait and of those in flight.
use Rattle.std.proofs.Common.{◌≡◌, ℕ, ◌<◌, ◌≤◌, Bool, true, false, ◌&&◌, inl, inr, List, length, map, refl, sym, ap, subst, ◌∙◌, arith}
use Rattle.std.specs.Prelude.{nat_lt, not, ◌==◌, slice_get, slice_set, Some, None, if◌then◌else◌}
use Rattle.std.specs.Option.{option_map}
use Rattle.std.specs.declared.option.Option.{Option}
use Rattle.std.proofs.lemmas.Bool.{cases_eq, cases_lt, and_parts, lt-ltb, le-ltb, ne_eqb, eq-eqb, eqb-true, ltb-true, false_from_ne_true}
use Rattle.std.proofs.lemmas.List.{get_or_past, length-map}
use Rattle.std.proofs.lemmas.Nat.{mod_below}
use Rattle.std.proofs.lemmas.Option.{none-some, same_Some}
use Rattle.strand_base.specs.Counting.{count_below}
use Rattle.strand_base.proofs.BelowBound.{list_get, list_length, count_strict}
use Rattle.strand_inputs.specs.declared.step.Step.TheVariants.{Send, Write}
use Rattle.strand_inputs.specs.Settings.{Settings}
use Rattle.strand_base.specs.Places.{persistent_place, address_of}
use Rattle.strand_events.specs.declared.event.Event.{Event}
use Rattle.strand_events.specs.Trace.{is_persist, core_at, event_is, core_event_is, strand_number, persists_of, persist_number}
use Rattle.strand_events.specs.Order.{set_of}
use Rattle.strand_events.proofs.EventWithin.{event_within}
use Rattle.strand_rules.specs.declared.turn.Cause.TheVariants as causes
use Rattle.strand_rules.specs.declared.turn.Turn.TheVariants.{Done, Bubble}
use Rattle.strand_rules.specs.Cycle.{State, is_item, is_accepted, is_dispatched, gone, buffer_of, is_eligible, is_in_buffer, epoch_waits, word_waits, persist_unmet, turn, write_after}
use Rattle.strand_modules.specs.Bank.{BankSeen}
use Rattle.strand_rules.specs.Machine.{StoresOk, StoresErr, durable_persists, stored_by, stored_for}
use Rattle.strand_rules.specs.DispatchedPersists.{AreParts, FitBuffers}
use Rattle.strand_base.proofs.ListBelow.{list_at}
use Rattle.strand_rules.proofs.Buffers.OneStrand.{fit_buffers}
use Rattle.strand_rules.proofs.PartsAreKept.{good_parts}
use Rattle.strand_rules.proofs.IsReached.{reached_good, reached_fit}
use Rattle.strand_buffer.specs.Entries as entry_lists
use Rattle.strand_buffer.specs.Entries.{entry_is, is_sent, passes, number_in, word_in, value_in, eligible_places}
use Rattle.strand_buffer.specs.declared.entry.Entry.{Entry}
use Rattle.strand_buffer.specs.declared.entry.Slot.{Slot}
use Rattle.strand_buffer.specs.declared.entry.Stage.TheVariants.{Sent}
use Rattle.strand_buffer.specs.Buffers.{IsSent, eligible_slot, found_slot, slot_at, list_in}
use Rattle.strand_control.specs.declared.request.Request.{Request}
use Rattle.strand_control.specs.declared.request.WriteTurn.TheVariants.{Written}
use Rattle.strand_control.specs.Flight as flights
use Rattle.strand_control.specs.Flight.{Flight, LieInBank, Writes}
use Rattle.strand_machine.specs.Lists.{entries, is_of_buffer, stage_of}
use Rattle.strand_machine.specs.Changed.{durable_first, with_written}
use Rattle.strand_machine.specs.Machine.{IsRingMachine, RingMachine, SlotIs}
use Rattle.strand_machine.specs.Stand.{Stand, buffers_at, tally_at, prefixes, request_at, requests}
use Rattle.strand_machine.proofs.Lists.FromOpen.{is_used}
use Rattle.strand_machine.proofs.Lists.Eligible.{Meets, entry_at, listed_at, buffered_open}
use Rattle.strand_machine.proofs.Turn.MetByCounts.{met_by_counts}
use Rattle.strand_events.specs.Prefixes.{core_persists, durable_prefix, leading}
use Rattle.strand_rules.proofs.Marks.{held_set, held_other}
use Rattle.strand_machine.proofs.Stand.Counts.{first_by_marks, leading_more}
use Rattle.strand_machine.proofs.Stand.Write.{turn_found, turn_none, stand_write}
use Rattle.strand_machine.proofs.Turn.Steps.{from_map, send_none, send_found}

-- the persist of a number
pub persist_found : (t : List Event) (p q : ℕ) → event_is is_persist t p ≡ true → slice_get (persists_of t) (persist_number t p) ≡ Some q → q ≡ p
persist_found t p q is at = same_Some q p (sym at ∙ list_at (length t) (event_is is_persist t) p (event_within is_persist t p is) is)

pub number_within : (t : List Event) (p : ℕ) → event_is is_persist t p ≡ true → persist_number t p < length (persists_of t)
number_within t p is = let within = event_within is_persist t p is in
    omega (arith, count_strict p p (length t) (event_is is_persist t) (omega arith) within is, list_length (length t) (event_is is_persist t))

-- a core that dispatched a persist is there
pub accepted_there : (g : Settings) (s : State) (n p : ℕ) → is_accepted g s n p ≡ true → n < length s.dispatched
accepted_there g s n p h =
    let below = ltb-true (count_below p (core_event_is (is_item g.mode) n s.now.trace)) (gone s n) ((and_parts _ _ ((and_parts (is_dispatched g s n p) (event_is is_persist s.now.trace p) h).0)).1) in
    elim (cases_lt n (length s.dispatched)) [ inl lt ↦ lt | inr past ↦ (let none : gone s n ≡ 0 = get_or_past s.dispatched n 0 past in absurd (omega (arith, below, none))) ]

-- an accepted persist
pub record IsTaken (s : State) (p : ℕ) : Type 0 where
  pub persist : event_is is_persist s.now.trace p ≡ true
  pub core : core_at s.now.trace p < length s.now.cores
  pub within : p < length s.now.trace

-- the persist of a request that was written
pub record IsWritten (m : RingMachine) (control : Flight) (bank bank' : BankSeen) (j : ℕ) (r : Request) (p : ℕ) : Type 0 where
  pub at : slice_get m.machine.state.flight j ≡ Some p
  pub request : r ≡ request_at m.machine.config m.machine.state p
  pub taken : IsTaken m.machine.state p
  pub sent : IsSent (buffers_at m.parts r.core) r.buffer r.number
  pub turned : turn m.machine.config m.machine.program m.machine.state (Write j) ≡ Done
  pub stored : StoresOk (stored_by m.machine.state (Write j)) bank bank'
  pub known : (tally_at m.parts r.core).first ≤ durable_first (durable_persists (write_after m.machine.state j (Some p))) (tally_at m.parts r.core).numbers
  pub after : Stand m.machine.config m.machine.program.sizes (write_after m.machine.state j (Some p)) (with_written (record m.parts { control = control }) r (durable_persists (write_after m.machine.state j (Some p))))

module _ (m : RingMachine) (holds : IsRingMachine m) where
  abbrev g : Settings
  g = m.machine.config

  abbrev s : State
  s = m.machine.state

  pub parts_hold : AreParts m.machine.config m.machine.state
  parts_hold = good_parts m.machine.config m.machine.state (reached_good m.machine.config m.machine.program m.machine.state holds.reached)

  pub buffers_fit : FitBuffers m.machine.config m.machine.state
  buffers_fit = fit_buffers m.machine.config m.machine.state (reached_fit m.machine.config m.machine.program m.machine.state holds.reached)

  taken_is : (p : ℕ) → is_accepted g s (core_at s.now.trace p) p ≡ true → IsTaken s p
  taken_is p h =
      let is = (and_parts (is_dispatched g s (core_at s.now.trace p) p) (event_is is_persist s.now.trace p) h).1 in
      let there = accepted_there g s (core_at s.now.trace p) p h in
      record { persist = is; core = omega (arith, there, holds.kept.dispatched); within = event_within is_persist s.now.trace p is }

  pub flight_taken : (i p : ℕ) → slice_get m.machine.state.flight i ≡ Some p → IsTaken m.machine.state p
  flight_taken i p at = taken_is p ((parts_hold.together p).1 (inr (inl (i, at))))

  pub waiting_taken : (p : ℕ) → set_of m.machine.state.buffered p ≡ true → IsTaken m.machine.state p
  waiting_taken p waits = taken_is p ((parts_hold.together p).1 (inl waits))

  -- each request lies in the bank
  pub requests_lie : (size : ℕ) → m.machine.program.sizes.persistent ≤ size → LieInBank (requests m.machine.config m.machine.state) size
  requests_lie size le i r at =
      let found = from_map (request_at g s) s.flight i r at in
      let is = (flight_taken i found.0 found.1).persist in
      let lies = holds.kept.placed found.0 is in
      subst (λ (r : Request). (r.word ≡ address_of (persistent_place r.word)) × (persistent_place r.word < size)) (sym found.2) (lies.0, (let lt = lies.1 in omega (arith, lt, le)))

  -- a persist in flight is an entry that was sent
  pub flight_sent : (i p : ℕ) → slice_get m.machine.state.flight i ≡ Some p → IsSent (buffers_at m.parts (core_at m.machine.state.now.trace p)) (buffer_of m.machine.config (strand_number m.machine.config.mode m.machine.state.now.trace p)) (persist_number m.machine.state.now.trace p)
  flight_sent h p at =
      let n : ℕ = core_at s.now.trace p in
      let b : ℕ = buffer_of g (strand_number g.mode s.now.trace p) in
      let taken = flight_taken h p at in
      let accepted : is_accepted g s n p ≡ true = (parts_hold.together p).1 (inr (inl (h, at))) in
      let undone : set_of s.durable p ≡ false = false_from_ne_true (set_of s.durable p) (λ d. parts_hold.apart.not_done p (h, at) d) in
      let sent : set_of s.buffered p ≡ false = false_from_ne_true (set_of s.buffered p) (λ w. parts_hold.apart.not_both p w (inl (h, at))) in
      let ring : is_of_buffer g s n b p ≡ true = rw (accepted, eq-eqb b b refl) refl in
      let i : ℕ = count_below p (is_used (is_of_buffer g s n b) (set_of s.durable)) in
      let there = listed_at g s n b parts_hold buffers_fit p ring undone taken.within in
      let entry = entry_at g s n b parts_hold buffers_fit i p there.1 in
      let list : list_in (buffers_at m.parts n) b ≡ entries g s n b = (holds.stand.buffers n taken.core).lists b (mod_below (strand_number g.mode s.now.trace p) g.buffers holds.buffers) in
      let stage : stage_of s p ≡ Sent = rw (undone, sent) refl in (
        i,
        ap (λ es. entry_is is_sent es i) list ∙ ap (passes is_sent) entry ∙ ap entry_lists.is_in_flight stage,
        ap (λ es. entry_lists.number_at es i) list ∙ ap number_in entry,
      )

  -- with what is counted the wait of each persist is met where the rules find it so
  pub meets : Meets m.machine.config m.machine.state (prefixes m.parts)
  meets = met_by_counts g s m.machine.program.sizes m.parts holds.stand (reached_good g m.machine.program s holds.reached).owned (omega (arith, holds.kept.cores))

  slot_from : (durable : List ℕ) (entries : List Entry) (j : ℕ) (slot : Slot) → found_slot entries j durable ≡ Some slot → (i : ℕ) × (slice_get (eligible_places durable entries) j ≡ Some i) × (slot ≡ slot_at entries i)
  slot_from durable entries j slot e = go (slice_get (eligible_places durable entries) j) refl e
    where
      go : (o : Option ℕ) → slice_get (eligible_places durable entries) j ≡ o → option_map (slot_at entries) o ≡ Some slot → (i : ℕ) × (slice_get (eligible_places durable entries) j ≡ Some i) × (slot ≡ slot_at entries i)
      go None at none = absurd (none-some slot none)
      go (Some i) at some = (i, at, sym (same_Some (slot_at entries i) slot some))

  slot_none : (durable : List ℕ) (entries : List Entry) (j : ℕ) → found_slot entries j durable ≡ None → slice_get (eligible_places durable entries) j ≡ None
  slot_none durable entries j e = go (slice_get (eligible_places durable entries) j) refl e
    where
      go : (o : Option ℕ) → slice_get (eligible_places durable entries) j ≡ o → option_map (slot_at entries) o ≡ None → slice_get (eligible_places durable entries) j ≡ None
      go None at none = at
      go (Some i) at some = absurd (none-some (slot_at entries i) (sym some))

  pub no_slot : (n b j : ℕ) → n < length m.machine.state.now.cores → b < m.machine.config.buffers → eligible_slot (buffers_at m.parts n) b j (prefixes m.parts) ≡ None → turn m.machine.config m.machine.program m.machine.state (Send n b j) ≡ Bubble causes.NoEntry
  no_slot n b j core buffer e =
      let list = (holds.stand.buffers n core).lists b buffer in
      send_none g m.machine.program s n b parts_hold buffers_fit (prefixes m.parts) meets j (slot_none (prefixes m.parts) (entries g s n b) j (ap (λ es. found_slot es j (prefixes m.parts)) (sym list) ∙ e))

  pub slot_facts : (n b j : ℕ) (slot : Slot) → n < length m.machine.state.now.cores → b < m.machine.config.buffers → eligible_slot (buffers_at m.parts n) b j (prefixes m.parts) ≡ Some slot
      → (p : ℕ) × SlotIs m n b j slot p × (turn m.machine.config m.machine.program m.machine.state (Send n b j) ≡ (if length m.machine.state.flight == m.machine.config.flight then Bubble causes.FlightFull else Done))
  slot_facts n b j slot core buffer e =
      let list : list_in (buffers_at m.parts n) b ≡ entries g s n b = (holds.stand.buffers n core).lists b buffer in
      let from = slot_from (prefixes m.parts) (entries g s n b) j slot (ap (λ es. found_slot es j (prefixes m.parts)) (sym list) ∙ e) in
      let i = from.0 in
      let found = send_found g m.machine.program s n b parts_hold buffers_fit (prefixes m.parts) meets j i from.1 in
      let p = found.0 in
      let in_list = list_get (length s.now.trace) (is_eligible g s n b) j p found.1 in
      let ready = (and_parts (is_in_buffer g s n b p && not (epoch_waits g s p) && not (word_waits g s p)) (not (persist_unmet g.conflict g.mode s.now.trace (set_of s.durable) p)) in_list.1).0 in
      let inside = (and_parts (is_in_buffer g s n b p) _ ((and_parts (is_in_buffer g s n b p && not (epoch_waits g s p)) (not (word_waits g s p)) ready).0)).0 in
      let one = and_parts (set_of s.buffered p && (core_at s.now.trace p == n)) (buffer_of g (strand_number g.mode s.now.trace p) == b) inside in
      let two = and_parts (set_of s.buffered p) (core_at s.now.trace p == n) one.0 in
      let may = list_get (length (entries g s n b)) (entry_lists.is_eligible (prefixes m.parts) (entries g s n b)) j i from.1 in
      let slot_is : slot ≡ slot_at (entries g s n b) i = from.2 in
      let taken = waiting_taken p two.0 in (
        p,
        record {
          at = found.1;
          buffered = two.0;
          undone = buffered_open g s n b parts_hold buffers_fit p two.0;
          persist = taken.persist;
          core = taken.core;
          request = cc (
            eqb-true (core_at s.now.trace p) n two.1,
            eqb-true (buffer_of g (strand_number g.mode s.now.trace p)) b one.1,
            ap (λ (x : Slot). x.number) slot_is ∙ ap number_in found.2,
            ap (λ (x : Slot). x.word) slot_is ∙ ap word_in found.2,
            ap (λ (x : Slot). x.value) slot_is ∙ ap value_in found.2,
          );
          eligible = subst (λ es. (i : ℕ) × (entry_lists.is_eligible (prefixes m.parts) es i ≡ true) × (entry_lists.number_at es i ≡ slot.number)) (sym list) (i, may.1, sym (ap (λ (x : Slot). x.number) slot_is));
        },
        found.3,
      )

  -- a send by the room for requests
  pub send_turned : (n b j : ℕ) (slot : Slot) → n < length m.machine.state.now.cores → b < m.machine.config.buffers → eligible_slot (buffers_at m.parts n) b j (prefixes m.parts) ≡ Some slot
      → (room : Bool) → nat_lt (length m.parts.control.requests) m.parts.control.limit ≡ room → turn m.machine.config m.machine.program m.machine.state (Send n b j) ≡ (if room then Done else Bubble causes.FlightFull)
  send_turned n b j slot core buffer e room is =
      let facts = slot_facts n b j slot core buffer e in
      let size : length m.parts.control.requests ≡ length s.flight = ap (λ (f : Flight). length f.requests) holds.stand.control ∙ length-map s.flight (request_at g s) in
      let limit : m.parts.control.limit ≡ g.flight = ap (λ (f : Flight). f.limit) holds.stand.control in
      let most = buffers_fit.requests in
      facts.2 ∙ (elim (cases_lt (length m.parts.control.requests) m.parts.control.limit) [
        | inl lt ↦
            let free : room ≡ true = sym is ∙ lt-ltb (length m.parts.control.requests) m.parts.control.limit lt in
            rw (free, ne_eqb (length s.flight) g.flight (λ same. omega (arith, lt, size, limit, same))) refl
        | inr le ↦
            let full : room ≡ false = sym is ∙ le-ltb (length m.parts.control.requests) m.parts.control.limit le in
            rw (full, eq-eqb (length s.flight) g.flight (omega (arith, le, size, limit, most))) refl
      ])

  -- the same of the persist that has the slot's number
  pub slot_by : (n b j : ℕ) (slot : Slot) → n < length m.machine.state.now.cores → b < m.machine.config.buffers → eligible_slot (buffers_at m.parts n) b j (prefixes m.parts) ≡ Some slot
      → (q : ℕ) → slice_get (persists_of m.machine.state.now.trace) slot.number ≡ Some q → SlotIs m n b j slot q
  slot_by n b j slot core buffer e q at =
      let known = slot_facts n b j slot core buffer e in
      let same : q ≡ known.0 = persist_found s.now.trace known.0 q known.1.persist (ap (slice_get (persists_of s.now.trace)) (sym (ap (λ (r : Request). r.number) known.1.request)) ∙ at) in
      subst (SlotIs m n b j slot) (sym same) known.1

  pub slot_within : (n b j : ℕ) (slot : Slot) → n < length m.machine.state.now.cores → b < m.machine.config.buffers → eligible_slot (buffers_at m.parts n) b j (prefixes m.parts) ≡ Some slot
      → slot.number < length (persists_of m.machine.state.now.trace)
  slot_within n b j slot core buffer e =
      let known = slot_facts n b j slot core buffer e in
      omega (arith, ap (λ (r : Request). r.number) known.1.request, number_within s.now.trace known.0 known.1.persist)

  more_durable : (p q : ℕ) → p < length m.machine.state.durable → set_of m.machine.state.durable q ≡ true → set_of (slice_set m.machine.state.durable p true) q ≡ true
  more_durable p q inside d = elim (cases_eq q p) [ inl e ↦ ap (set_of (slice_set s.durable p true)) e ∙ held_set s.durable p true inside | inr ne ↦ held_other s.durable p true q ne ∙ d ]

  first_known : (j p : ℕ) (n : ℕ) → n < length m.machine.state.now.cores → p < length m.machine.state.durable → (tally_at m.parts n).first ≤ durable_first (durable_persists (write_after m.machine.state j (Some p))) (tally_at m.parts n).numbers
  first_known j p n core inside =
      let tally = holds.stand.tallies n core in
      let now : durable_first (durable_persists (write_after m.machine.state j (Some p))) (tally_at m.parts n).numbers ≡ durable_prefix s.now.trace (set_of (slice_set s.durable p true)) n =
      ap (λ ns. leading (map (set_of (durable_persists (write_after m.machine.state j (Some p)))) ns)) tally.numbers ∙ first_by_marks s.now.trace (set_of (slice_set s.durable p true)) n in
      omega (arith, tally.first, now, leading_more (set_of s.durable) (set_of (slice_set s.durable p true)) (core_persists s.now.trace n) (λ q d. more_durable p q inside d))

  pub written_is : (control : Flight) (bank bank' : BankSeen) (j : ℕ) (r : Request) → Writes m.parts.control control bank bank' j (Written r) → (p : ℕ) × IsWritten m control bank bank' j r p
  written_is control bank bank' j r (free, left, stored) =
      let found = turn_found g m.machine.program s m.machine.program.sizes m.parts holds.stand j r false free.there free.free in
      let p = found.0 in
      let taken = flight_taken j p found.1 in
      let inside : p < length s.durable = omega (arith, taken.within, holds.kept.durable) in (
        p,
        record {
          at = found.1;
          request = found.2;
          taken = taken;
          sent = subst (λ (q : Request). IsSent (buffers_at m.parts q.core) q.buffer q.number) (sym found.2) (flight_sent j p found.1);
          turned = found.3;
          stored = subst (λ o. StoresOk (stored_for s o) bank bank') (sym found.1) (subst (λ (q : Request). flights.StoresOk bank bank' q) found.2 stored);
          known = subst (λ (q : Request). (tally_at m.parts q.core).first ≤ durable_first (durable_persists (write_after s j (Some p))) (tally_at m.parts q.core).numbers) (sym found.2) (first_known j p (core_at s.now.trace p) taken.core inside);
          after = subst (λ (f : Flight). Stand g m.machine.program.sizes (write_after s j (Some p)) (with_written (record m.parts { control = f }) r (durable_persists (write_after s j (Some p))))) (sym left)
              (stand_write g m.machine.program s m.machine.program.sizes m.parts holds.stand j r p found.2 holds.buffers taken.persist taken.core inside);
        },
      )

  -- the same of the persist that has the request's number
  pub written_by : (control : Flight) (bank bank' : BankSeen) (j : ℕ) (r : Request) → Writes m.parts.control control bank bank' j (Written r) → (q : ℕ) → slice_get (persists_of m.machine.state.now.trace) r.number ≡ Some q → IsWritten m control bank bank' j r q
  written_by control bank bank' j r writes q at =
      let known = written_is control bank bank' j r writes in
      let same : q ≡ known.0 = persist_found s.now.trace known.0 q known.1.taken.persist (ap (slice_get (persists_of s.now.trace)) (sym (ap (λ (r : Request). r.number) known.1.request)) ∙ at) in
      subst (IsWritten m control bank bank' j r) (sym same) known.1

  pub written_number : (control : Flight) (bank bank' : BankSeen) (j : ℕ) (r : Request) → Writes m.parts.control control bank bank' j (Written r) → r.number < length (persists_of m.machine.state.now.trace)
  written_number control bank bank' j r writes =
      let known = written_is control bank bank' j r writes in
      omega (arith, ap (λ (r : Request). r.number) known.1.request, number_within s.now.trace known.0 known.1.taken.persist)

  -- a write that is a bubble or a fault
  pub no_request : (j : ℕ) → slice_get m.parts.control.requests j ≡ None → turn m.machine.config m.machine.program m.machine.state (Write j) ≡ Bubble causes.NoEntry
  no_request j e = turn_none g m.machine.program s m.machine.program.sizes m.parts holds.stand j e

  pub older_waits : (j : ℕ) (r : Request) → flights.IsKeptBack m.parts.control.requests j r → turn m.machine.config m.machine.program m.machine.state (Write j) ≡ Bubble causes.OlderWaits
  older_waits j r back = (turn_found g m.machine.program s m.machine.program.sizes m.parts holds.stand j r true back.there back.older).3

  pub refused : (bank bank' : BankSeen) (j : ℕ) (r : Request) (module_ : ℕ) → flights.IsFree m.parts.control.requests j r → flights.StoresErr bank bank' r module_
      → (turn m.machine.config m.machine.program m.machine.state (Write j) ≡ Done) × StoresErr (stored_by m.machine.state (Write j)) bank bank' module_
  refused bank bank' j r module_ free stored =
      let found = turn_found g m.machine.program s m.machine.program.sizes m.parts holds.stand j r false free.there free.free in
      (found.3, subst (λ o. StoresErr (stored_for s o) bank bank' module_) (sym found.1) (subst (λ (q : Request). flights.StoresErr bank bank' q module_) found.2 stored))
