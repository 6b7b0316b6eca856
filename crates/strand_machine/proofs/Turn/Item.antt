-- Serves clauses step and parts of Machine::step: a queue's first item, its turn and what its dispatch needs.
use Rattle.std.proofs.Common.{◌≡◌, ℕ, ◌<◌, ◌≤◌, Bool, true, false, inl, inr, length, refl, sym, ap, subst, ◌∙◌, arith}
use Rattle.std.specs.Prelude.{slice_get, Some, None, MatchOption, if◌then◌else◌}
use Rattle.std.specs.Option.{option_map}
use Rattle.std.specs.declared.option.Option.{Option}
use Rattle.std.proofs.lemmas.Bool.{cases_Bool}
use Rattle.std.proofs.lemmas.List.{length-map}
use Rattle.std.proofs.lemmas.Option.{none-some, same_Some}
use Rattle.strand_inputs.specs.Settings.{Settings}
use Rattle.strand_inputs.specs.declared.step.Step.TheVariants.{Dispatch}
use Rattle.strand_events.specs.Trace.{is_persist, is_barrier, event_is, epoch, persists_of, persist_number}
use Rattle.strand_rules.specs.declared.turn.Cause.TheVariants as causes
use Rattle.strand_rules.specs.declared.turn.Turn.{Turn}
use Rattle.strand_rules.specs.declared.turn.Turn.TheVariants.{Done, Bubble}
use Rattle.strand_rules.specs.Cycle.{State, IsReached, front, is_item, item_after, item_turn, turn}
use Rattle.strand_rules.specs.Kept.{IsKeptMachine}
use Rattle.strand_rules.specs.Machine.{FrontIs, made_to}
use Rattle.strand_rules.proofs.Front.{found, number_most}
use Rattle.strand_rules.proofs.Buffers.Run.{IsFit}
use Rattle.strand_rules.proofs.IsReached.{item_reached, reached_fit}
use Rattle.strand_rules.proofs.Turns.{bubble_not_done}
use Rattle.strand_rules.specs.declared.turn.Cause.{Cause}
use Rattle.strand_buffer.specs.Buffers.{Buffers, has_room, can_begin}
use Rattle.strand_queue.specs.declared.item.Item.{Item}
use Rattle.strand_queue.specs.declared.item.Item.TheVariants.{Persist, Barrier, NewStrand}
use Rattle.strand_rules.proofs.WithMemory.{kept_with}
use Rattle.strand_machine.specs.declared.machine.Machine.TheInside.{Inside}
use Rattle.strand_machine.specs.KeptMachine.{IsKeptRingMachine, seen}
use Rattle.strand_machine.specs.Machine.{IsRingMachine, RingMachine}
use Rattle.strand_tags.specs.Traces.{noted_wait}
use Rattle.strand_machine.specs.Changed.{CanTake, HasWait, with_dispatched}
use Rattle.strand_machine.specs.Stand.{BuffersStand, Stand, buffers_at, item_of, queue_at}
use Rattle.strand_machine.proofs.Turn.Steps.{dispatch_begin, dispatch_persist}
use Rattle.strand_machine.proofs.Stand.Machine.{HasRooms}
use Rattle.strand_machine.proofs.ItemKinds.{event_barrier_begins, event_item_begins, event_persist_begins, item_barrier, item_begin, item_persist}
use Rattle.strand_machine.proofs.Turn.SendWrite.{buffers_fit, number_within, parts_hold, persist_found}
use Rattle.strand_machine.proofs.Lists.Queue.{front_by_queue}
use Rattle.strand_machine.proofs.Lists.Room.{begun_by_front}
use Rattle.strand_machine.proofs.Stand.Item.{epoch_rises, number_rises, stand_dispatched}
use Rattle.std.proofs.lemmas.Bool.{and_parts}

-- what holds of a machine, by its fields
pub holds_inside : (m : Inside) → IsKeptRingMachine m → IsKeptMachine m.pipeline → 0 < m.pipeline.config.buffers → IsRingMachine (seen m)
holds_inside m is kept buffers = record {
  reached = is.reached;
  kept = kept_with m.parts.cache.memory m.pipeline kept;
  buffers = buffers;
  stand = is.stand;
  rooms = is.rooms;
  wait_room = is.wait_room;
  extents = is.extents;
}

-- whether the buffers let an item be dispatched
abbrev pub decided : Buffers → Item → Turn
decided bs (Persist number word value epoch) = if has_room bs then Done else Bubble causes.NoRoom
decided bs Barrier = Done
decided bs NewStrand = if can_begin bs then Done else Bubble causes.NotEmpty

abbrev pub is_persist_item : Item → Bool
is_persist_item (Persist number word value epoch) = true
is_persist_item _ = false

abbrev number_in : Item → ℕ
number_in (Persist number word value epoch) = number
number_in _ = 0

-- an item is a persist where its event is
item_is : (g : Settings) (s : State) (k : ℕ) → is_persist_item (item_of g s k) ≡ event_is is_persist s.now.trace k
item_is g s k = elim (cases_Bool (event_is is_persist s.now.trace k)) [
  | inl is ↦ ap is_persist_item (item_persist g s k is) ∙ sym is
  | inr no_ ↦ elim (cases_Bool (event_is is_barrier s.now.trace k)) [
    | inl is ↦ ap is_persist_item (item_barrier g s k no_ is) ∙ sym no_
    | inr none ↦ ap is_persist_item (item_begin g s k no_ none) ∙ sym no_
  ]
]

-- nothing waits where the turn is Done
let_through : (b : Bool) (cause : Cause) → (if b then Done else Bubble cause) ≡ Done → b ≡ true
let_through true cause e = refl
let_through false cause e = absurd (bubble_not_done cause e)

-- an item is the first of core n's queue
pub record IsFirst (r : RingMachine) (n : ℕ) (item : Item) : Type 0 where
  pub holds : IsRingMachine r
  pub core : n < length r.machine.state.now.cores
  pub front : slice_get (queue_at r.parts n).items 0 ≡ Some item

-- what is required of the machine, for the fields
pub first_inside : (inside r : RingMachine) (n : ℕ) (item : Item) → inside ≡ r → IsRingMachine inside → n < length r.machine.state.now.cores → slice_get (queue_at r.parts n).items 0 ≡ Some item → IsFirst inside n item
first_inside inside r n item same holds core first = subst (λ r. IsFirst r n item) (sym same) (record { holds = subst IsRingMachine same holds; core = core; front = first })

module _ (r : RingMachine) (n : ℕ) (item : Item) (is_first : IsFirst r n item) where
  holds : IsRingMachine r
  holds = is_first.holds

  core : n < length r.machine.state.now.cores
  core = is_first.core

  abbrev g : Settings
  g = r.machine.config

  abbrev s : State
  s = r.machine.state

  abbrev bs : Buffers
  bs = buffers_at r.parts n

  -- the event that it stands for
  front_event : (k : ℕ) × (front g s n ≡ Some k) × (item ≡ item_of g s k)
  front_event = go (front g s n) refl (sym (front_by_queue g s n) ∙ sym (ap (λ q. slice_get q.items 0) (holds.stand.queues n core)) ∙ is_first.front)
    where
      go : (o : Option ℕ) → front g s n ≡ o → option_map (item_of g s) o ≡ Some item → (k : ℕ) × (front g s n ≡ Some k) × (item ≡ item_of g s k)
      go None first none = absurd (none-some item none)
      go (Some k) first some = (k, first, sym (same_Some (item_of g s k) item some))

  abbrev k : ℕ
  k = front_event.0

  first : front g s n ≡ Some k
  first = front_event.1

  there : n < length s.dispatched
  there = omega (arith, core, holds.kept.dispatched)

  inside : k < length s.now.trace
  inside = (found g s n k first).0

  is_item_k : event_is (is_item g.mode) s.now.trace k ≡ true
  is_item_k = (and_parts (event_is (is_item g.mode) s.now.trace k) _ ((found g s n k first).1)).0

  own : BuffersStand g s n bs
  own = holds.stand.buffers n core

  fit : IsFit g s
  fit = reached_fit g r.machine.program s holds.reached

  turned : turn g r.machine.program s (Dispatch n) ≡ decided bs (item_of g s k)
  turned = elim (cases_Bool (event_is is_persist s.now.trace k)) [
    | inl is ↦
        dispatch_persist g r.machine.program s n k first there bs own holds.buffers fit ((buffers_fit r holds).ring n k) is (event_persist_begins s.now.trace k is)
        ∙ sym (ap (decided bs) (item_persist g s k is))
    | inr no_ ↦ elim (cases_Bool (event_is is_barrier s.now.trace k)) [
      | inl is ↦ ap (item_turn g s n) first ∙ (let none = event_barrier_begins s.now.trace k is in rw (no_, none) refl) ∙ sym (ap (decided bs) (item_barrier g s k no_ is))
      | inr none ↦
          dispatch_begin g r.machine.program s n k first there bs own holds.buffers no_ (event_item_begins g.mode s.now.trace k is_item_k no_ none)
          ∙ sym (ap (decided bs) (item_begin g s k no_ none))
    ]
  ]

  -- its turn
  pub turn_decided : turn g r.machine.program s (Dispatch n) ≡ decided bs item
  turn_decided = turned ∙ sym (ap (decided bs) front_event.2)

  -- a persist
  pub persist_within : (number word value era : ℕ) → item ≡ Persist number word value era → number < length (persists_of s.now.trace)
  persist_within number word value era e =
      let is : event_is is_persist s.now.trace k ≡ true = sym (item_is g s k) ∙ sym (ap is_persist_item front_event.2) ∙ ap is_persist_item e in
      let same : number ≡ persist_number s.now.trace k = sym (ap number_in e) ∙ ap number_in front_event.2 ∙ ap number_in (item_persist g s k is) in
      let within = number_within s.now.trace k is in omega (arith, same, within)

  pub front_persist : (number word value era p : ℕ) → item ≡ Persist number word value era → slice_get (persists_of s.now.trace) number ≡ Some p → FrontIs g s n (Some p)
  front_persist number word value era p e there_ =
      let is : event_is is_persist s.now.trace k ≡ true = sym (item_is g s k) ∙ sym (ap is_persist_item front_event.2) ∙ ap is_persist_item e in
      let same : number ≡ persist_number s.now.trace k = sym (ap number_in e) ∙ ap number_in front_event.2 ∙ ap number_in (item_persist g s k is) in
      let p_is : p ≡ k = persist_found s.now.trace k p is (sym (ap (slice_get (persists_of s.now.trace)) same) ∙ there_) in
      subst (λ p. FrontIs g s n (Some p)) (sym p_is) (first, is)

  -- another item
  pub front_other : is_persist_item item ≡ false → FrontIs g s n None
  front_other e = (k, first, sym (item_is g s k) ∙ sym (ap is_persist_item front_event.2) ∙ e)

  module _ (done : turn g r.machine.program s (Dispatch n) ≡ Done) where
    -- the state after its dispatch is reached
    pub dispatch_reached : IsReached g r.machine.program (item_after s n (front g s n))
    dispatch_reached = subst (λ o. IsReached g r.machine.program (item_after s n o)) (sym first) (item_reached r.machine n k holds.reached first (sym (ap (item_turn g s n) first) ∙ done))

    take_event : CanTake bs (item_of g s k)
    take_event =
        let open_ : decided bs (item_of g s k) ≡ Done = sym turned ∙ done in
        elim (cases_Bool (event_is is_persist s.now.trace k)) [
          | inl is ↦ subst (CanTake bs) (sym (item_persist g s k is)) (
            let_through (has_room bs) causes.NoRoom (sym (ap (decided bs) (item_persist g s k is)) ∙ open_),
            subst (λ o. MatchOption o (Unit {0}) (λ m. m < persist_number s.now.trace k)) (sym own.number) (number_rises g s n k first there is),
            subst (λ o. MatchOption o (Unit {0}) (λ e. e ≤ epoch g.mode s.now.trace k)) (sym own.epoch) (epoch_rises g s n k first there),
          )
          | inr no_ ↦ elim (cases_Bool (event_is is_barrier s.now.trace k)) [
            | inl is ↦ subst (CanTake bs) (sym (item_barrier g s k no_ is)) tt
            | inr none ↦ subst (CanTake bs) (sym (item_begin g s k no_ none)) (
              let_through (can_begin bs) causes.NotEmpty (sym (ap (decided bs) (item_begin g s k no_ none)) ∙ open_),
              omega (arith, own.strand, begun_by_front g s n k first, number_most g.mode s.now.trace k, inside, holds.kept.few_events, holds.kept.made_within, holds.kept.few_steps),
            )
          ]
        ]

    -- the buffers can take it
    pub can_take : CanTake bs item
    can_take = subst (CanTake bs) (sym front_event.2) take_event

  -- its wait is kept, where it is a persist
  pub has_wait : HasWait r.parts item
  has_wait = subst (HasWait r.parts) (sym front_event.2) (elim (cases_Bool (event_is is_persist s.now.trace k)) [
    | inl is ↦
        let size : length r.parts.waiting.waits ≡ length (persists_of s.now.trace) = ap length holds.stand.waits ∙ length-map (persists_of s.now.trace) (noted_wait g.conflict g.mode s.now.trace) in
        subst (HasWait r.parts) (sym (item_persist g s k is)) (omega (arith, number_within s.now.trace k is, size))
    | inr no_ ↦ elim (cases_Bool (event_is is_barrier s.now.trace k)) [
      | inl is ↦ subst (HasWait r.parts) (sym (item_barrier g s k no_ is)) tt
      | inr none ↦ subst (HasWait r.parts) (sym (item_begin g s k no_ none)) tt
    ]
  ])

  -- the parts stand after its dispatch
  pub stand_after : Stand g r.machine.program.sizes (item_after s n (front g s n)) (with_dispatched r.parts n item)
  stand_after = subst (λ o. Stand g r.machine.program.sizes (item_after s n o) (with_dispatched r.parts n item)) (sym first)
      (subst (λ i. Stand g r.machine.program.sizes (item_after s n (Some k)) (with_dispatched r.parts n i)) (sym front_event.2)
      (stand_dispatched g s n k first there r.machine.program.sizes r.parts holds.stand core (parts_hold r holds) holds.buffers (omega (arith, inside, holds.kept.buffered))))

  -- and the room for what is counted stays
  pub rooms_after : HasRooms (made_to r.machine (item_after s n (front g s n))) (with_dispatched r.parts n item)
  rooms_after = subst (λ o. HasRooms (made_to r.machine (item_after s n o)) (with_dispatched r.parts n item)) (sym first) holds.rooms
