use Rattle.std.proofs.Common.{◌≡◌, ◌≤◌, ◌++◌, [], ◌∷◌, ◌∙◌, length, sym, ap, subst}
use Rattle.std.specs.Prelude.{IfSome, None, Some}
use Rattle.strand_inputs.specs.Settings.{Settings}
use Rattle.strand_events.specs.declared.event.Event.{Event}
use Rattle.strand_rules.specs.Cycle.{IsReached, core_after, made_turn}
use Rattle.strand_rules.specs.Machine.{Machine, NextEffect, made_to}
use Rattle.strand_rules.specs.Pipeline.{with_memory}
use Rattle.strand_rules.proofs.WithMemory.{runs_without}
use Rattle.strand_queue.specs.Queue.{Queue}
use Rattle.strand_tags.specs.Traces.{noted_wait}
use Rattle.strand_cache.specs.Seen.{Seen}
use Rattle.strand_machine.specs.Cached.{CacheStands}
use Rattle.strand_machine.specs.Changed.{CanQueue, KeepsWait}
use Rattle.strand_machine.specs.KeptMachine.{IsKeptRingMachine, seen}
use Rattle.strand_machine.specs.Machine.{RingMachine}
use Rattle.strand_machine.specs.Stand.{PartsSeen, queue_at, tally_at}
use Rattle.strand_machine.proofs.Turn.Item.{holds_inside}
use Rattle.strand_machine.proofs.Stand.Machine.{held_moved}
use Rattle.strand_machine.proofs.Stand.NextEvent.{IsNext, made_of}
use Rattle.strand_machine.proofs.Stand.Retire.{Enqueued, Retired, Retiring, asks, cache_core, cache_is, cache_placed, cache_stands, can_follow, counts, event_last, has_room, held_retired, is_next, item_is, made_parts, made_room, none_next, retired_comes, retired_is, retiring_inside, retiring_reached, rooms_quiet, stand_quiet}
use Rattle.strand_machine.proofs.machine.Machine.retire.Goals.{After-enqueue, After-keeps, After-newest_item-item, After-note_wait, After-retire, In_default, In-Some}
use Rattle.strand_machine.proofs.machine.Machine.retire.Goals as goal

retiring : (c : After-keeps) → Retiring (seen c.self.inside) c.args.n c.args.plan c.args.event
retiring c = retiring_inside (seen c.self.inside) c.args.self.now c.args.n c.args.effect c.args.plan c.args.event c.self.view_is
    (holds_inside c.self.inside c.self.invariant c.keeps.ensures.kept c.keeps.ensures.buffers)
    c.requires.core c.requires.runs c.requires.plan c.requires.placed c.requires.event c.requires.own c.requires.done c.requires.room

runs : (c : After-keeps) → NextEffect c.self.inside.pipeline c.args.n c.args.effect
runs c = runs_without c.self.inside.parts.cache.memory c.self.inside.pipeline c.args.n c.args.effect (subst (λ (r : RingMachine). NextEffect r.machine c.args.n c.args.effect) (sym c.self.view_is) c.requires.runs)

pub access-loaded-requires-clause-core : goal.access-loaded-requires-clause-core
access-loaded-requires-clause-core c = cache_core (seen c.self.inside) c.args.n c.args.plan c.args.event (retiring (goal.at.access-loaded-requires-clause-core c).After-keeps)

pub access-loaded-requires-clause-placed : goal.access-loaded-requires-clause-placed
access-loaded-requires-clause-placed c = cache_placed (seen c.self.inside) c.args.n c.args.plan c.args.event (retiring (goal.at.access-loaded-requires-clause-placed c).After-keeps)

pub retire-requires-clause-runs : goal.retire-requires-clause-runs
retire-requires-clause-runs c = runs (goal.at.retire-requires-clause-runs c).After-keeps

pub retire-requires-clause-reached : goal.retire-requires-clause-reached
retire-requires-clause-reached c =
    let at = (goal.at.retire-requires-clause-reached c).After-keeps in
    retired_comes c.self.inside c.args.n c.args.effect c.args.plan c.args.event (retiring at) (runs at) c.requires.plan c.access-loaded.new.self.cache c.access-loaded.ensures.cache c.access-loaded.result c.access-loaded.ensures.loaded

-- what its caches and the pipeline then are
retired : (c : After-retire) → Retiring (seen c.self.inside) c.args.n c.args.plan c.args.event → NextEffect c.self.inside.pipeline c.args.n c.args.effect
    → Retired c.self.inside c.args.n c.args.plan c.args.event c.access-loaded.new.self.cache c.retire.new.self
retired c step run = record {
  step = step;
  moved = retired_is c.self.inside c.args.n c.args.effect c.args.plan c.args.event step run c.requires.plan c.access-loaded.new.self.cache c.access-loaded.ensures.cache c.access-loaded.result c.access-loaded.ensures.loaded c.retire.new.self c.retire.ensures;
  cached = cache_stands (seen c.self.inside) c.args.n c.args.plan c.args.event step c.access-loaded.new.self.cache c.access-loaded.ensures.cache;
  extents = c.access-loaded.ensures.extents ∙ step.holds.extents;
}

pub returns-in_default-clause-machine : goal.returns-in_default-clause-machine
returns-in_default-clause-machine c =
    let at = goal.at.returns-in_default-clause-machine c in
    (retired at.After-retire (retiring at.After-keeps) (runs at.After-keeps)).moved ∙ ap (λ (r : RingMachine). made_to r.machine (core_after r.machine.program r.machine.state c.args.n c.args.event)) c.self.view_is

-- without an event the parts stay but for the caches
quiet : (c : In_default) → Retired c.self.inside c.args.n c.args.plan c.args.event c.access-loaded.new.self.cache c.retire.new.self → IsKeptRingMachine (record { pipeline = c.retire.new.self; parts = c.access-loaded.new.self })
quiet c done =
    let r = seen c.self.inside in
    let n = c.args.n in
    let cache = c.access-loaded.new.self.cache in
    let none = c.in_default.is in
    let holds = done.step.holds in
    let next = none_next r n c.args.plan c.args.event done.step none in
    held_moved r (core_after r.machine.program r.machine.state n None) c.retire.new.self c.access-loaded.new.self (record r.parts { cache = cache })
    (done.moved ∙ ap (λ o. made_to r.machine (core_after r.machine.program r.machine.state n o)) none) c.access-loaded.ensures.others
    (stand_quiet r holds n next cache (subst (λ o. CacheStands r.machine.config (core_after r.machine.program r.machine.state n o) cache) none done.cached))
    (rooms_quiet r holds n next) holds.wait_room
    (subst (λ o. IsReached r.machine.config r.machine.program (core_after r.machine.program r.machine.state n o)) none (retiring_reached r n c.args.plan c.args.event done.step)) done.extents

pub returns-in_default-clause-parts : goal.returns-in_default-clause-parts
returns-in_default-clause-parts c =
    let at = goal.at.returns-in_default-clause-parts c in
    (quiet at.In_default (retired at.After-retire (retiring at.After-keeps) (runs at.After-keeps))).stand

pub invariant_of-self : goal.invariant_of-self
invariant_of-self c =
    let at = goal.at.invariant_of-self c in
    quiet at.In_default (retired at.After-retire (retiring at.After-keeps) (runs at.After-keeps))

-- its event comes next, and the machine moved on with it
next : (c : In-Some) → Retired c.self.inside c.args.n c.args.plan c.args.event c.access-loaded.new.self.cache c.retire.new.self → IsNext (seen c.self.inside) c.args.n c.in-Some.event
next c done = is_next (seen c.self.inside) c.args.n c.args.plan c.args.event done.step c.in-Some.event c.in-Some.is

pub newest_item-item-requires : goal.newest_item-item-requires
newest_item-item-requires c =
    let at = goal.at.newest_item-item-requires c in
    let done = retired at.After-retire (retiring at.After-keeps) (runs at.After-keeps) in
    let r = seen c.self.inside in
    rw (c.trace.ensures.events) (event_last r c.args.n c.in-Some.event (next at.In-Some done) (with_memory c.access-loaded.new.self.cache.memory c.retire.new.self)
    (done.moved ∙ ap (λ o. made_to r.machine (core_after r.machine.program r.machine.state c.args.n o)) c.in-Some.is))

-- this is the item that it stands for
made : (c : After-newest_item-item) → Retired c.self.inside c.args.n c.args.plan c.args.event c.access-loaded.new.self.cache c.retire.new.self
    → c.newest_item-item.result ≡ made_of c.self.inside.pipeline.config.mode c.self.inside.pipeline.state.now.trace c.in-Some.event
made c done =
    let r = seen c.self.inside in
    item_is r c.args.n c.in-Some.event (is_next r c.args.n c.args.plan c.args.event done.step c.in-Some.event c.in-Some.is) (with_memory c.access-loaded.new.self.cache.memory c.retire.new.self)
    (done.moved ∙ ap (λ o. made_to r.machine (core_after r.machine.program r.machine.state c.args.n o)) c.in-Some.is) c.newest_item-item.result c.config.inside.mode c.trace.result.now.events c.newest_item-item.ensures
    (ap (λ (g : Settings). g.mode) (c.config.view_is ∙ c.config-config.ensures)) c.trace.ensures.events

pub enqueue-requires-clause-room : goal.enqueue-requires-clause-room
enqueue-requires-clause-room c =
    let r = seen c.self.inside in
    let n = c.args.n in
    let at = goal.at.enqueue-requires-clause-room c in
    let done = retired at.After-retire (retiring at.After-keeps) (runs at.After-keeps) in
    subst (λ (p : PartsSeen). IfSome c.newest_item-item.result (λ i. CanQueue (queue_at p n) (tally_at p n))) (sym c.access-loaded.ensures.others)
    (made_room r n c.in-Some.event (next at.In-Some done) (subst (λ (q : Queue). length q.items ≤ q.depth) c.queue.ensures c.is_full-full.ensures.within) done.step.room
    (sym (ap (made_turn r.machine.config r.machine.state n) c.in-Some.is) ∙ done.step.done) c.newest_item-item.result (made at.After-newest_item-item done))

-- the parts with it
enqueued : (c : After-enqueue) → Retired c.self.inside c.args.n c.args.plan c.args.event c.access-loaded.new.self.cache c.retire.new.self
    → c.newest_item-item.result ≡ made_of c.self.inside.pipeline.config.mode c.self.inside.pipeline.state.now.trace c.in-Some.event
    → Enqueued (seen c.self.inside) c.args.n c.in-Some.event c.access-loaded.new.self.cache c.enqueue.new.self
enqueued c done made_is =
    let r = seen c.self.inside in
    let n = c.args.n in
    let cache = c.access-loaded.new.self.cache in
    record {
      next = is_next r n c.args.plan c.args.event done.step c.in-Some.event c.in-Some.is;
      cached = subst (λ o. CacheStands r.machine.config (core_after r.machine.program r.machine.state n o) cache) c.in-Some.is done.cached;
      parts_are = made_parts r.parts c.access-loaded.new.self c.enqueue.new.self cache n c.newest_item-item.result _ c.access-loaded.ensures.others c.enqueue.ensures made_is;
    }

pub note_access-requires-clause-access : goal.note_access-requires-clause-access
note_access-requires-clause-access c =
    let at = goal.at.note_access-requires-clause-access c in
    let done = retired at.After-retire (retiring at.After-keeps) (runs at.After-keeps) in
    asks (seen c.self.inside) c.args.n c.in-Some.event c.access-loaded.new.self.cache c.enqueue.new.self (enqueued at.After-enqueue done (made at.After-newest_item-item done))

pub note_access-requires-clause-made : goal.note_access-requires-clause-made
note_access-requires-clause-made c yes_ =
    let at = goal.at.note_access-requires-clause-made c in
    let done = retired at.After-retire (retiring at.After-keeps) (runs at.After-keeps) in
    counts (seen c.self.inside) c.args.n c.in-Some.event c.access-loaded.new.self.cache c.enqueue.new.self (enqueued at.After-enqueue done (made at.After-newest_item-item done))

-- its wait can be kept
pub note_wait-requires-clause-room : goal.note_wait-requires-clause-room
note_wait-requires-clause-room c yes_ =
    let at = goal.at.note_wait-requires-clause-room c in
    let done = retired at.After-retire (retiring at.After-keeps) (runs at.After-keeps) in
    has_room (seen c.self.inside) c.args.n c.in-Some.event c.access-loaded.new.self.cache c.enqueue.new.self (enqueued at.After-enqueue done (made at.After-newest_item-item done))
    c.note_access.new.self c.next_wait-wait.result.counts c.note_access.ensures.noted c.note_access.ensures.same c.note_access.ensures.others done.step.room

pub note_wait-requires-clause-made : goal.note_wait-requires-clause-made
note_wait-requires-clause-made c tag =
    let at = goal.at.note_wait-requires-clause-made c in
    let done = retired at.After-retire (retiring at.After-keeps) (runs at.After-keeps) in
    can_follow (seen c.self.inside) c.args.n c.in-Some.event c.access-loaded.new.self.cache c.enqueue.new.self (enqueued at.After-enqueue done (made at.After-newest_item-item done))
    c.note_access.new.self c.next_wait-wait.result.counts c.note_access.ensures.noted c.note_access.ensures.same c.note_access.ensures.others done.step.room
    (sym (ap (λ (g : Settings). g.conflict) (c.config-config.ensures ∙ ap (λ (m : Machine). m.config) c.retire.ensures)) ∙ tag)

-- the wait is what the rules say of the event
wait_is : (c : After-note_wait) → c.next_wait-wait.result.counts ≡ noted_wait c.self.inside.pipeline.config.conflict c.self.inside.pipeline.config.mode (c.self.inside.pipeline.state.now.trace ++ c.in-Some.event ∷ []) (length c.self.inside.pipeline.state.now.trace)
wait_is c =
    let of : RingMachine → Event → Type 0 = λ r e. c.next_wait-wait.result.counts ≡ noted_wait r.machine.config.conflict r.machine.config.mode (r.machine.state.now.trace ++ e ∷ []) (length r.machine.state.now.trace) in
    let next_is : IfSome (Some c.in-Some.event) (of c.args.self.now) = subst (λ o. IfSome o (of c.args.self.now)) c.in-Some.is c.next_wait-wait.ensures in
    subst (λ r. of r c.in-Some.event) (sym c.self.view_is) next_is

-- it is kept by the machine's settings
kept : (c : After-note_wait) → KeepsWait c.self.inside.pipeline.config c.note_access.new.self c.note_wait.new.self c.args.n c.in-Some.event c.next_wait-wait.result.counts
kept c = subst (λ g. KeepsWait g c.note_access.new.self c.note_wait.new.self c.args.n c.in-Some.event c.next_wait-wait.result.counts) (c.config-config.ensures ∙ ap (λ (m : Machine). m.config) c.retire.ensures) c.note_wait.ensures.kept

-- what the fields keep with it
stays_kept : (c : After-note_wait) → Retired c.self.inside c.args.n c.args.plan c.args.event c.access-loaded.new.self.cache c.retire.new.self
    → Enqueued (seen c.self.inside) c.args.n c.in-Some.event c.access-loaded.new.self.cache c.enqueue.new.self → IsKeptRingMachine (record { pipeline = c.retire.new.self; parts = c.note_wait.new.self })
stays_kept c done queued =
    let r = seen c.self.inside in
    let n = c.args.n in
    held_retired r n c.in-Some.event c.access-loaded.new.self.cache c.enqueue.new.self queued c.note_access.new.self c.next_wait-wait.result.counts c.note_access.ensures.noted c.note_access.ensures.same c.note_access.ensures.others
    c.note_wait.new.self (kept c) c.note_wait.ensures.others (wait_is c) c.retire.new.self (done.moved ∙ ap (λ o. made_to r.machine (core_after r.machine.program r.machine.state n o)) c.in-Some.is)
    (subst (λ o. IsReached r.machine.config r.machine.program (core_after r.machine.program r.machine.state n o)) c.in-Some.is (retiring_reached r n c.args.plan c.args.event done.step)) done.extents

pub returns-clause-machine : goal.returns-clause-machine
returns-clause-machine c =
    let at = goal.at.returns-clause-machine c in
    let done = retired at.After-retire (retiring at.After-keeps) (runs at.After-keeps) in
    ap (λ (cache : Seen). with_memory cache.memory c.retire.new.self) (cache_is (seen c.self.inside) c.args.n c.in-Some.event c.access-loaded.new.self.cache c.enqueue.new.self (enqueued at.After-enqueue done (made at.After-newest_item-item done))
    c.note_access.new.self c.next_wait-wait.result.counts c.note_access.ensures.noted c.note_access.ensures.same c.note_access.ensures.others c.note_wait.new.self (kept at.After-note_wait) c.note_wait.ensures.others)
    ∙ done.moved ∙ ap (λ (r : RingMachine). made_to r.machine (core_after r.machine.program r.machine.state c.args.n c.args.event)) c.self.view_is

pub returns-clause-parts : goal.returns-clause-parts
returns-clause-parts c =
    let at = goal.at.returns-clause-parts c in
    let done = retired at.After-retire (retiring at.After-keeps) (runs at.After-keeps) in
    (stays_kept at.After-note_wait done (enqueued at.After-enqueue done (made at.After-newest_item-item done))).stand

pub invariant_of-self-2 : goal.invariant_of-self-2
invariant_of-self-2 c =
    let at = goal.at.invariant_of-self-2 c in
    let done = retired at.After-retire (retiring at.After-keeps) (runs at.After-keeps) in
    stays_kept at.After-note_wait done (enqueued at.After-enqueue done (made at.After-newest_item-item done))
