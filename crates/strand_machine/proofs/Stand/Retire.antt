-- Serves clauses step and parts of Machine::step: machine and parts after a core retired its instruction.
use Rattle.std.proofs.Common.{◌≡◌, ℕ, ◌-◌, ◌<◌, ◌≤◌, Bool, true, false, ◌&&◌, inl, inr, List, [], ◌∷◌, ◌++◌, length, refl, sym, ap, subst, ◌∙◌, arith}
use Rattle.std.specs.Prelude.{◌==◌, ◌^◌, slice_get, slice_index, Some, None, IfSome, if◌then◌else◌}
use Rattle.std.specs.declared.option.Option.{Option}
use Rattle.std.proofs.lemmas.Bool.{cases_Bool, cases_eq, eq-eqb, both_ways}
use Rattle.std.proofs.lemmas.List.{length-map}
use Rattle.strand_base.specs.Counting.{count_below}
use Rattle.strand_base.proofs.BelowBound.{get_last, list_length}
use Rattle.strand_inputs.specs.declared.conflict.Conflict.TheVariants.{Tag}
use Rattle.strand_inputs.specs.declared.mode.Mode.{Mode}
use Rattle.strand_events.specs.declared.event.Event.{Event}
use Rattle.strand_events.specs.Trace.{core_of, word_of, is_access, is_store, is_persist, is_join, core_event_is}
use Rattle.strand_events.proofs.TraceInvariant.{count_most}
use Rattle.strand_rules.specs.declared.turn.Cause.TheVariants as causes
use Rattle.strand_rules.specs.declared.turn.Turn.TheVariants.{Done, Bubble}
use Rattle.strand_rules.specs.Visible.{event_of, with_event, loaded, memory_after, next_plan, plan_by, plan_in}
use Rattle.strand_rules.specs.Pipeline.{IsReachedWithSome, retired_to, with_memory}
use Rattle.strand_rules.proofs.Retire.Machine.{retired_reached, retires}
use Rattle.strand_rules.specs.Cycle.{IsReached, State, access_waits, is_item, join_waits, made_turn, queued, core_after, event_in, next_event}
use Rattle.strand_rules.specs.Machine.{Machine, NextEffect, made_to}
use Rattle.strand_exec.specs.Memory.{extents_of}
use Rattle.strand_exec.specs.Plan.{IsPlaced, asked, plan_of}
use Rattle.strand_exec.specs.declared.effect.Effect.{Effect}
use Rattle.strand_exec.specs.declared.planned.Plan.{Plan}
use Rattle.strand_events.specs.Order.{set_of}
use Rattle.strand_rules.proofs.Order.Sets.Event.{length_grown}
use Rattle.strand_rules.proofs.IsReached.{core_reached}
use Rattle.strand_rules.proofs.Retire.Trace.{retired_trace}
use Rattle.strand_rules.proofs.Setup.{retired_cores}
use Rattle.strand_rules.proofs.Turns.{if_done, so_not}
use Rattle.strand_queue.specs.declared.item.Item.{Item}
use Rattle.strand_queue.specs.Queue.{Queue}
use Rattle.strand_tags.specs.Access.{access, noted_as}
use Rattle.strand_tags.specs.TagsSeen.{TagsSeen, CanAsk}
use Rattle.strand_tags.specs.Traces.{noted_wait}
use Rattle.strand_tags.specs.declared.core_waits.CoreWaits.{CoreWaits}
use Rattle.strand_events.specs.Prefixes.{core_persists}
use Rattle.strand_cache.specs.Seen.{Seen}
use Rattle.strand_machine.specs.Cached.{CacheStands}
use Rattle.strand_machine.specs.Changed.{CanQueue, GoesThrough, KeepsWait, Notes, with_made}
use Rattle.strand_machine.specs.declared.machine.Machine.TheInside.{Inside}
use Rattle.strand_machine.specs.KeptMachine.{IsKeptRingMachine, seen}
use Rattle.strand_machine.specs.Machine.{FitsCore, IsRingMachine, RingMachine}
use Rattle.strand_machine.specs.Stand.{PartsSeen, Stand, Waiting, newest_item, queue_at, tally_at}
use Rattle.strand_machine.proofs.Stand.Cache.{cache_after, retired_memory}
use Rattle.strand_machine.proofs.Stand.Counts.{next_most}
use Rattle.strand_machine.proofs.Stand.Machine.{HasRooms, held_moved, rooms_with}
use Rattle.strand_machine.proofs.Lists.Queue.{queued_by_queue}
use Rattle.strand_machine.proofs.Stand.NextEvent.{IsNext, made_count, made_of, made_tags, made_waiting, newest_is, own_asks, own_counts, own_room, own_stand, own_waits_made, rooms_made}
use Rattle.strand_machine.proofs.Stand.Event.{with_waits}

-- what a core that runs asks
running_plan : (m : Machine) (n : ℕ) (effect : Effect) (request : Plan) → NextEffect m n effect → request ≡ asked effect → next_plan m.program m.state.now n ≡ Some request
unfolding plan_of
running_plan m n effect request runs asks =
    ap (plan_in m.program) runs.there ∙ ap (plan_by m.program runs.core) runs.running ∙ sym (ap (λ p. Some p) (asks ∙ ap asked runs.effect_is))

-- core n, which runs, retires an instruction that asks this and makes this event
pub record Retiring (r : RingMachine) (n : ℕ) (request : Plan) (o : Option Event) : Type 0 where
  pub holds : IsRingMachine r
  pub there : n < length r.machine.state.now.cores
  pub asks : next_plan r.machine.program r.machine.state.now n ≡ Some request
  pub placed : IsPlaced r.machine.program.sizes request
  pub event : o ≡ event_of n r.machine.state.now.memory request
  pub fits : IfSome o (FitsCore r.machine.program.sizes n)
  pub done : made_turn r.machine.config r.machine.state n o ≡ Done
  pub room : r.machine.made < r.machine.steps

-- what is required of the machine, for the fields
pub retiring_inside : (inside r : RingMachine) (n : ℕ) (effect : Effect) (request : Plan) (o : Option Event) → inside ≡ r → IsRingMachine inside → n < length r.machine.state.now.cores
    → NextEffect r.machine n effect → request ≡ asked effect → IsPlaced r.machine.program.sizes request → o ≡ event_of n r.machine.state.now.memory request → IfSome o (FitsCore r.machine.program.sizes n)
    → made_turn r.machine.config r.machine.state n o ≡ Done → r.machine.made < r.machine.steps → Retiring inside n request o
retiring_inside inside r n effect request o same holds there runs asks placed event fits done room = subst (λ r. Retiring r n request o) (sym same) (record {
  holds = subst IsRingMachine same holds;
  there = there;
  asks = running_plan r.machine n effect request runs asks;
  placed = placed;
  event = event;
  fits = fits;
  done = done;
  room = room;
})

module _ (r : RingMachine) (n : ℕ) (request : Plan) (o : Option Event) (step : Retiring r n request o) where
  pub retiring_reached : IsReached r.machine.config r.machine.program (core_after r.machine.program r.machine.state n o)
  retiring_reached = core_reached r.machine n request o step.holds.reached (sym step.asks) step.event step.done

  event_next : next_event r.machine.program r.machine.state.now n ≡ o
  event_next = ap (event_in n r.machine.state.now.memory) step.asks ∙ sym step.event

  pub is_next : (e : Event) → o ≡ Some e → IsNext r n e
  is_next e same = record {
    holds = step.holds;
    there = step.there;
    fits = (let fits : IfSome (Some e) (FitsCore r.machine.program.sizes n) = subst (λ o. IfSome o (FitsCore r.machine.program.sizes n)) same step.fits in fits);
    next = event_next ∙ same;
  }

  -- its access can be made
  pub cache_core : n < r.parts.cache.cores
  cache_core = omega (arith, step.there, step.holds.stand.cache.cores)

  pub cache_placed : IsPlaced (extents_of r.parts.cache.memory) request
  cache_placed =
      let sizes = ap extents_of step.holds.stand.cache.memory ∙ step.holds.extents in
      subst (λ x. IsPlaced x request) (sym sizes) step.placed

  -- and the caches that it went through stand for the state after it
  pub cache_stands : (cache : Seen) → GoesThrough r.parts.cache cache n request → CacheStands r.machine.config (core_after r.machine.program r.machine.state n o) cache
  cache_stands cache made =
      let kept = step.holds.kept in
      let s = r.machine.state in
      cache_after r.machine.config s (core_after r.machine.program s n o) r.parts.cache cache n step.holds.stand.cache step.there (omega (arith, kept.few_events, kept.made_within, kept.few_steps))
      (retired_cores r.machine.program s.now n) request made (retired_memory r.machine.program s.now n request step.asks)
      (retired_trace r.machine.program s.now n ∙ ap (with_event s.now.trace) (event_next ∙ step.event))

  pub none_next : o ≡ None → next_event r.machine.program r.machine.state.now n ≡ None
  none_next same = event_next ∙ same

-- The pipeline that retired an instruction, with the caches' memory after it, is the machine of the rules after it.
module _ (inside : Inside) (n : ℕ) (effect : Effect) (request : Plan) (o : Option Event) (step : Retiring (seen inside) n request o) (runs : NextEffect inside.pipeline n effect) (asks : request ≡ asked effect)
    (cache : Seen) (through : GoesThrough inside.parts.cache cache n request) (word : ℕ) (found : word ≡ loaded inside.parts.cache.memory request) where
  abbrev m : Machine
  m = (seen inside).machine

  pub retired_comes : IsReachedWithSome m.config m.program (retired_to inside.pipeline.state n effect o word)
  retired_comes = retired_reached inside.parts.cache.memory inside.pipeline n effect request o word runs asks step.event found (retiring_reached (seen inside) n request o step)

  pub retired_is : (p : Machine) → p ≡ made_to inside.pipeline (retired_to inside.pipeline.state n effect o word) → with_memory cache.memory p ≡ made_to m (core_after m.program m.state n o)
  retired_is p is =
      let memory : cache.memory ≡ memory_after m.state.now.memory request = (cache_stands (seen inside) n request o step cache through).memory ∙ retired_memory m.program m.state.now n request step.asks in
      ap (λ y. with_memory y p) memory ∙ ap (with_memory (memory_after m.state.now.memory request)) is ∙ retires inside.parts.cache.memory inside.pipeline n effect request o word runs asks step.event found

-- Core n's instruction went through the caches and was retired: these are the caches and the pipeline then.
pub record Retired (inside : Inside) (n : ℕ) (request : Plan) (o : Option Event) (cache : Seen) (pipeline : Machine) : Type 0 where
  pub step : Retiring (seen inside) n request o
  pub moved : with_memory cache.memory pipeline ≡ made_to (seen inside).machine (core_after inside.pipeline.program (seen inside).machine.state n o)
  pub cached : CacheStands inside.pipeline.config (core_after inside.pipeline.program (seen inside).machine.state n o) cache
  pub extents : extents_of cache.memory ≡ inside.pipeline.program.sizes

-- an instruction without an event leaves the parts but for the caches
module _ (r : RingMachine) (holds : IsRingMachine r) (n : ℕ) (next : next_event r.machine.program r.machine.state.now n ≡ None) where
  abbrev quiet : State
  quiet = core_after r.machine.program r.machine.state n None

  quiet_cores : length quiet.now.cores ≡ length r.machine.state.now.cores
  quiet_cores = retired_cores r.machine.program r.machine.state.now n

  abbrev with_trace : List Event → State
  with_trace t = record quiet { now = record quiet.now { trace = t } }

  same_trace : quiet.now.trace ≡ r.machine.state.now.trace
  same_trace = retired_trace r.machine.program r.machine.state.now n ∙ ap (with_event r.machine.state.now.trace) next

  pub stand_quiet : (cache : Seen) → CacheStands r.machine.config quiet cache → Stand r.machine.config r.machine.program.sizes quiet (record r.parts { cache = cache })
  stand_quiet cache cached = subst (λ t. Stand r.machine.config r.machine.program.sizes (with_trace t) (record r.parts { cache = cache }))
      (sym same_trace) (record {
        queue_count = holds.stand.queue_count ∙ sym quiet_cores;
        queues = λ i lt. holds.stand.queues i (omega (arith, lt, quiet_cores));
        buffer_count = holds.stand.buffer_count ∙ sym quiet_cores;
        buffers = λ i lt. (let b = holds.stand.buffers i (omega (arith, lt, quiet_cores)) in record { ring = b.ring; buffers = b.buffers; strand = b.strand; lists = b.lists; number = b.number; epoch = b.epoch });
        tags = record {
          extents = holds.stand.tags.extents;
          cores = holds.stand.tags.cores ∙ sym quiet_cores;
          accesses = holds.stand.tags.accesses;
          strands = λ i lt. holds.stand.tags.strands i (omega (arith, lt, quiet_cores));
          made = λ i lt. holds.stand.tags.made i (omega (arith, lt, quiet_cores));
        };
        control = holds.stand.control;
        tally_count = holds.stand.tally_count ∙ sym quiet_cores;
        tallies = λ i lt. (let c = holds.stand.tallies i (omega (arith, lt, quiet_cores)) in record { numbers = c.numbers; first = c.first; strand = c.strand; waits = c.waits });
        waits = holds.stand.waits;
        cache = subst (λ t. CacheStands r.machine.config (with_trace t) cache) same_trace cached;
      })

  pub rooms_quiet : HasRooms (made_to r.machine quiet) r.parts
  rooms_quiet = λ i lt. holds.rooms i (omega (arith, lt, quiet_cores))

-- a queue has room for what a done instruction makes
module _ (r : RingMachine) (n : ℕ) (e : Event) (is : IsNext r n e) (within : length (queue_at r.parts n).items ≤ (queue_at r.parts n).depth) (room : r.machine.made < r.machine.steps) (done : made_turn r.machine.config r.machine.state n (Some e) ≡ Done) where
  can_queue : is_item r.machine.config.mode e ≡ true → CanQueue (queue_at r.parts n) (tally_at r.parts n)
  can_queue item =
      let g = r.machine.config in
      let s = r.machine.state in
      let t = s.now.trace in
      let waits : Bool = access_waits g.conflict g.mode t (set_of s.durable) e in
      let crowded : Bool = is_item g.mode e && (queued g s n == g.queue) in
      let one = if_done (is_join e && join_waits g s n) causes.Join (if waits then Bubble causes.Conflict else if crowded then Bubble causes.Queue else Done) done in
      let two = if_done waits causes.Conflict (if crowded then Bubble causes.Queue else Done) one.1 in
      let three = if_done crowded causes.Queue Done two.1 in
      let ne : queued g s n ≡ g.queue → ⊥ = λ same. both_ways (queued g s n == g.queue) (so_not (is_item g.mode e) (queued g s n == g.queue) three.0 item) (eq-eqb (queued g s n) g.queue same) in
      let items : length (queue_at r.parts n).items ≡ queued g s n = ap (λ (q : Queue). length q.items) (is.holds.stand.queues n is.there) ∙ queued_by_queue g s n in
      let depth : (queue_at r.parts n).depth ≡ g.queue = ap (λ (q : Queue). q.depth) (is.holds.stand.queues n is.there) in
      let tally = is.holds.stand.tallies n is.there in
      let numbers : length (tally_at r.parts n).numbers ≡ count_below (length t) (core_event_is is_persist n t) = ap length tally.numbers ∙ length-map (core_persists t n) _ ∙ list_length (length t) (core_event_is is_persist n t) in
      let most = count_most (length t) (core_event_is is_persist n t) in
      let rooms = is.holds.rooms n is.there in
      record {
        queue = elim (cases_eq (queued g s n) g.queue) [ inl same ↦ absurd (ne same) | inr other ↦ (let lt : queued g s n < g.queue = (let le : queued g s n ≤ g.queue = omega (arith, within, items, depth) in grind arith) in omega (arith, lt, items, depth)) ];
        room = omega (arith, numbers, most, rooms, is.holds.kept.few_events, room);
        strand = omega (arith, tally.strand, next_most g.mode t n, is.holds.kept.few_events, room, is.holds.kept.few_steps);
      }

  pub made_room : (item : Option Item) → item ≡ made_of r.machine.config.mode r.machine.state.now.trace e → IfSome item (λ i. CanQueue (queue_at r.parts n) (tally_at r.parts n))
  made_room item same = subst (λ o. IfSome o (λ i. CanQueue (queue_at r.parts n) (tally_at r.parts n))) (sym same) (elim (cases_Bool (is_item r.machine.config.mode e)) [
    | inl yes_ ↦ rw yes_ (can_queue yes_)
    | inr no_ ↦ rw no_ tt
  ])

module _ (r : RingMachine) (n : ℕ) (e : Event) (is : IsNext r n e) (plain : Machine) (moved : plain ≡ made_to r.machine (core_after r.machine.program r.machine.state n (Some e))) where
  abbrev trace : List Event
  trace = r.machine.state.now.trace

  trace_is : plain.state.now.trace ≡ trace ++ e ∷ []
  trace_is = ap (λ (m : Machine). m.state.now.trace) moved ∙ retired_trace r.machine.program r.machine.state.now n ∙ ap (with_event trace) is.next

  -- the event at the trace's end
  pub event_last : slice_get plain.state.now.trace (length plain.state.now.trace - 1) ≡ Some e
  event_last =
      let last : length (trace ++ e ∷ []) - 1 ≡ length trace = omega (arith, length_grown trace e) in
      ap (λ (t : List Event). slice_get t (length t - 1)) trace_is ∙ ap (slice_get (trace ++ e ∷ [])) last ∙ get_last trace e

  -- and the item that it stands for
  pub item_is : (new : Option Item) (mode : Mode) (events : List Event) → new ≡ newest_item mode events → mode ≡ plain.config.mode → events ≡ plain.state.now.trace → new ≡ made_of r.machine.config.mode r.machine.state.now.trace e
  item_is new mode events newest same_mode same_events =
      newest ∙ ap (newest_item mode) (same_events ∙ trace_is) ∙ newest_is mode trace e
      ∙ ap (λ mode. made_of mode trace e) (same_mode ∙ ap (λ (m : Machine). m.config.mode) moved)

-- The caches stand for the state with the event, and its item is in its core's queue.
pub record Enqueued (r : RingMachine) (n : ℕ) (e : Event) (cache : Seen) (parts : PartsSeen) : Type 0 where
  pub next : IsNext r n e
  pub cached : CacheStands r.machine.config (core_after r.machine.program r.machine.state n (Some e)) cache
  pub parts_are : parts ≡ record (with_made r.parts n (made_of r.machine.config.mode r.machine.state.now.trace e)) { cache = cache }

with_made_cached : (m : PartsSeen) (cache : Seen) (n : ℕ) (o : Option Item) → with_made (record m { cache = cache }) n o ≡ record (with_made m n o) { cache = cache }
with_made_cached m cache n None = refl
with_made_cached m cache n (Some item) = refl

-- the parts that the caches and then the queue made
pub made_parts : (m before parts : PartsSeen) (cache : Seen) (n : ℕ) (o made : Option Item) → before ≡ record m { cache = cache } → parts ≡ with_made before n o → o ≡ made → parts ≡ record (with_made m n made) { cache = cache }
made_parts m before parts cache n o made before_is is made_is =
    is ∙ ap (λ p. with_made p n o) before_is ∙ with_made_cached m cache n o ∙ ap (λ o. record (with_made m n o) { cache = cache }) made_is

module _ (r : RingMachine) (n : ℕ) (e : Event) (cache : Seen) (parts : PartsSeen) (queued : Enqueued r n e cache parts) where
  own : core_of e ≡ n
  own = queued.next.fits.core

  own_is : IsNext r (core_of e) e
  own_is = subst (λ n. IsNext r n e) (sym own) queued.next

  abbrev made_item : Option Item
  made_item = made_of r.machine.config.mode r.machine.state.now.trace e

  abbrev with_own : PartsSeen
  with_own = record (with_made r.parts (core_of e) made_item) { cache = cache }

  parts_is : parts ≡ with_own
  parts_is = queued.parts_are ∙ ap (λ n. record (with_made r.parts n made_item) { cache = cache }) (sym own)

  tags_is : parts.tags ≡ r.parts.tags
  tags_is = ap (λ (p : PartsSeen). p.tags) parts_is ∙ made_tags r.parts (core_of e) made_item

  -- an access can be asked of the tags and noted
  pub asks : is_access e ≡ true → CanAsk parts.tags (access n (tally_at parts n).strand (word_of e) (is_store e))
  asks yes_ = subst (λ n. CanAsk parts.tags (access n (tally_at parts n).strand (word_of e) (is_store e))) own
      (subst (λ (p : PartsSeen). CanAsk parts.tags (access (core_of e) (tally_at p (core_of e)).strand (word_of e) (is_store e))) (sym parts_is)
      (subst (λ tags. CanAsk tags (access (core_of e) (tally_at with_own (core_of e)).strand (word_of e) (is_store e))) (sym tags_is) (own_asks r e own_is yes_)))

  pub counts : slice_index parts.tags.made n ≤ length (tally_at parts n).numbers
  counts = subst (λ n. slice_index parts.tags.made n ≤ length (tally_at parts n).numbers) own
      (subst (λ (p : PartsSeen). slice_index parts.tags.made (core_of e) ≤ length (tally_at p (core_of e)).numbers) (sym parts_is)
      (subst (λ (tags : TagsSeen). slice_index tags.made (core_of e) ≤ length (tally_at with_own (core_of e)).numbers) (sym tags_is) (own_counts r e own_is)))

  module _ (noted : PartsSeen) (wait : List ℕ)
      (notes : is_access e ≡ true → Notes parts.tags noted.tags (noted_as (access n (tally_at parts n).strand (word_of e) (is_store e)) (length (tally_at parts n).numbers) wait))
      (same : is_access e ≡ false → noted.tags ≡ parts.tags) (others : noted ≡ record parts { tags = noted.tags }) where
    own_noted : is_access e ≡ true → Notes r.parts.tags noted.tags (noted_as (access (core_of e) (tally_at with_own (core_of e)).strand (word_of e) (is_store e)) (length (tally_at with_own (core_of e)).numbers) wait)
    own_noted yes_ = subst (λ tags. Notes tags noted.tags (noted_as (access (core_of e) (tally_at with_own (core_of e)).strand (word_of e) (is_store e)) (length (tally_at with_own (core_of e)).numbers) wait)) tags_is
        (subst (λ (p : PartsSeen). Notes parts.tags noted.tags (noted_as (access (core_of e) (tally_at p (core_of e)).strand (word_of e) (is_store e)) (length (tally_at p (core_of e)).numbers) wait)) parts_is
        (subst (λ n. Notes parts.tags noted.tags (noted_as (access n (tally_at parts n).strand (word_of e) (is_store e)) (length (tally_at parts n).numbers) wait)) (sym own) (notes yes_)))

    abbrev with_noted : PartsSeen
    with_noted = record with_own { tags = noted.tags }

    noted_is : noted ≡ with_noted
    noted_is = others ∙ ap (λ (p : PartsSeen). record p { tags = noted.tags }) parts_is

    waiting_is : noted.waiting ≡ r.parts.waiting
    waiting_is = ap (λ (p : PartsSeen). p.waiting) noted_is ∙ made_waiting r.parts (core_of e) made_item

    -- its wait can be kept
    pub has_room : r.machine.made < r.machine.steps → length noted.waiting.waits < noted.waiting.room
    has_room room = subst (λ (w : Waiting). length w.waits < w.room) (sym waiting_is) (own_room r e own_is room)

    pub can_follow : r.machine.made < r.machine.steps → r.machine.config.conflict ≡ Tag → (tally_at noted n).waits.made < 2 ^ 32 - 1
    can_follow room tag = subst (λ n. (tally_at noted n).waits.made < 2 ^ 32 - 1) own
        (subst (λ (p : PartsSeen). (tally_at p (core_of e)).waits.made < 2 ^ 32 - 1) (sym noted_is) (own_waits_made r e own_is room tag))

    module _ (now : PartsSeen) (keeps : KeepsWait r.machine.config noted now n e wait) (rest : now ≡ record noted { waiting = now.waiting; tallies = now.tallies }) where
      own_keeps : KeepsWait r.machine.config with_noted now (core_of e) e wait
      own_keeps = subst (λ p. KeepsWait r.machine.config p now (core_of e) e wait) noted_is (subst (λ n. KeepsWait r.machine.config noted now n e wait) (sym own) keeps)

      abbrev waits : CoreWaits
      waits = (tally_at now (core_of e)).waits

      now_is : now ≡ with_waits with_noted (core_of e) waits now.waiting
      now_is = rest ∙ ap (λ (p : PartsSeen). record p { waiting = now.waiting; tallies = now.tallies }) noted_is ∙ ap (λ ts. record with_noted { waiting = now.waiting; tallies = ts }) own_keeps.tallies

      pub cache_is : now.cache ≡ cache
      cache_is = ap (λ (p : PartsSeen). p.cache) now_is

      kept_waits : now.waiting.waits ≡ (if is_persist e then r.parts.waiting.waits ++ wait ∷ [] else r.parts.waiting.waits)
      kept_waits = ap (λ (w : Waiting). w.waits) own_keeps.waiting ∙ ap (λ (w : Waiting). if is_persist e then w.waits ++ wait ∷ [] else w.waits) (made_waiting r.parts (core_of e) made_item)

      kept_room : now.waiting.room ≡ r.machine.steps
      kept_room = ap (λ (w : Waiting). w.room) own_keeps.waiting ∙ ap (λ (w : Waiting). w.room) (made_waiting r.parts (core_of e) made_item) ∙ queued.next.holds.wait_room

      abbrev after_ : State
      after_ = core_after r.machine.program r.machine.state n (Some e)

      rooms_after : HasRooms (made_to r.machine after_) (with_waits with_noted (core_of e) waits now.waiting)
      rooms_after =
          let holds = queued.next.holds in
          let count : length r.parts.tallies ≡ length after_.now.cores = holds.stand.tally_count ∙ sym (retired_cores r.machine.program r.machine.state.now n) in
          rooms_with (made_to r.machine after_) (with_made r.parts (core_of e) made_item) (core_of e) _ (made_count r.parts (core_of e) made_item ∙ count) refl
          (rooms_made (made_to r.machine after_) r.parts (core_of e) made_item count (λ i lt. holds.rooms i (omega (arith, lt, count, holds.stand.tally_count))))

      -- what the fields keep
      pub held_retired : wait ≡ noted_wait r.machine.config.conflict r.machine.config.mode (r.machine.state.now.trace ++ e ∷ []) (length r.machine.state.now.trace)
          → (p : Machine) → with_memory cache.memory p ≡ made_to r.machine after_ → IsReached r.machine.config r.machine.program after_ → extents_of cache.memory ≡ r.machine.program.sizes
          → IsKeptRingMachine (record { pipeline = p; parts = now })
      held_retired wait_is p moved reached extents =
          held_moved r after_ p now (with_waits with_noted (core_of e) waits now.waiting) (ap (λ (q : PartsSeen). with_memory q.cache.memory p) now_is ∙ moved) now_is
          (subst (λ n. Stand r.machine.config r.machine.program.sizes (core_after r.machine.program r.machine.state n (Some e)) (with_waits with_noted (core_of e) waits now.waiting)) own
          (own_stand r e own_is noted.tags wait wait_is own_noted (λ no_. same no_ ∙ tags_is) cache
          (subst (λ n. CacheStands r.machine.config (core_after r.machine.program r.machine.state n (Some e)) cache) (sym own) queued.cached) waits now.waiting kept_waits own_keeps.own))
          rooms_after kept_room reached extents
