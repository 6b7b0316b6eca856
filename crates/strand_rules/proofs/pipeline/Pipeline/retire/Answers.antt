use Rattle.std.proofs.Common.{◌<◌, arith, length, length-set, map, subst, sym, ap, ◌∙◌}
use Rattle.strand_rules.specs.Visible.{with_event}
use Rattle.strand_rules.specs.Machine.{Machine, NextEffect, made_to}
use Rattle.strand_events.specs.Order.{set_of}
use Rattle.strand_events.specs.Trace.{persists_of}
use Rattle.strand_rules.specs.Looking.{persists_unmarked}
use Rattle.strand_rules.specs.Kept.{seen}
use Rattle.strand_rules.specs.Pipeline.{IsReachedWithSome, retired_to, state_with}
use Rattle.strand_rules.proofs.Marks.{marks_few, marks_grown}
use Rattle.strand_rules.proofs.MachineInvariant.{kept_core, retired_state}
use Rattle.strand_rules.proofs.Fields.{room_seen, runs_seen, reached_seen, event_room}
use Rattle.strand_rules.proofs.IsReached.{reached_placed}
use Rattle.strand_rules.proofs.Retire.Machine.{core_moved}
use Rattle.strand_rules.proofs.pipeline.Pipeline.retire.Goals as goal

pub note-requires-clause-persisted : goal.note-requires-clause-persisted
note-requires-clause-persisted c =
    let m = seen c.self.inside in
    let held_all = c.self.invariant in
    omega (arith, marks_few m.state.now.trace m.state.durable, ap length held_all.persisted, held_all.persisted_room, event_room m held_all.kept (room_seen m _ c.self.view_is c.requires.room))

pub invariant_of-self : goal.invariant_of-self
invariant_of-self c =
    let m = seen c.self.inside in
    let room : m.made < m.steps = room_seen m _ c.self.view_is c.requires.room in
    let runs : NextEffect m c.args.n c.args.effect = runs_seen m _ c.self.view_is c.args.n c.args.effect c.requires.runs in
    let reached : IsReachedWithSome m.config m.program (retired_to m.state c.args.n c.args.effect c.args.event c.args.loaded) =
    reached_seen m _ c.self.view_is (λ m. retired_to m.state c.args.n c.args.effect c.args.event c.args.loaded) c.requires.reached in
    let placed = reached_placed m.config m.program (state_with reached.0 (retired_to m.state c.args.n c.args.effect c.args.event c.args.loaded)) c.self.invariant.kept.few_volatile reached.1 in
    let moved = core_moved m c.args.n c.args.effect c.index_mut.result.now c.args.loaded runs c.index_mut.ensures.value in
    record {
      kept = rw (c.note.ensures.events, c.note.ensures.buffered, c.note.ensures.durable, c.push_reserved.ensures.items) (kept_core m _ c.args.n c.args.event (length-set _ _ _) placed c.self.invariant.kept room);
      reached = rw (c.note.ensures.events, c.note.ensures.buffered, c.note.ensures.durable, c.push_reserved.ensures.items, c.apply.ensures)
          (subst (λ cores. IsReachedWithSome m.config m.program (retired_state m.state cores c.args.n c.args.event)) (sym moved) reached);
      persisted = c.note.ensures.persisted
          ∙ ap (λ marks. persists_unmarked marks c.args.event) c.self.invariant.persisted
          ∙ sym (marks_grown m.state.now.trace c.args.event m.state.durable c.self.invariant.kept.durable)
          ∙ sym (ap (λ marks. map (set_of marks) (persists_of (with_event m.state.now.trace c.args.event))) c.note.ensures.durable)
          ∙ sym (ap (λ t. map (set_of c.note.new.durable.items) (persists_of t)) c.note.ensures.events);
      room = c.note.ensures.room ∙ c.self.invariant.room;
      retired_room = omega (arith, c.push_reserved.ensures.capacity, c.self.invariant.retired_room);
      buffered_room = omega (arith, c.note.ensures.buffered_room, c.self.invariant.buffered_room);
      durable_room = omega (arith, c.note.ensures.durable_room, c.self.invariant.durable_room);
      persisted_room = omega (arith, c.note.ensures.persisted_room, c.self.invariant.persisted_room);
      flight_room = c.self.invariant.flight_room;
    }

pub returns : goal.returns
returns c =
    let m = seen c.self.inside in
    let runs : NextEffect m c.args.n c.args.effect = runs_seen m _ c.self.view_is c.args.n c.args.effect c.requires.runs in
    rw (c.note.ensures.events, c.note.ensures.buffered, c.note.ensures.durable, c.push_reserved.ensures.items, c.apply.ensures)
    (ap (λ cores. made_to m (retired_state m.state cores c.args.n c.args.event)) (core_moved m c.args.n c.args.effect c.index_mut.result.now c.args.loaded runs c.index_mut.ensures.value))
    ∙ ap (λ (m : Machine). made_to m (retired_to m.state c.args.n c.args.effect c.args.event c.args.loaded)) c.self.view_is
