use Rattle.std.proofs.Common.{◌≡◌, ◌<◌, ◌∙◌, arith, length, true, sym, ap}
use Rattle.std.specs.Prelude.{Some, slice_get, slice_set}
use Rattle.std.proofs.lemmas.List.{length-map}
use Rattle.std.proofs.lemmas.Option.{slice_get_within}
use Rattle.strand_base.proofs.BelowBound.{count_strict, list_length}
use Rattle.strand_events.specs.Order.{set_of}
use Rattle.strand_events.specs.Trace.{event_is, is_persist, persist_number, persists_of}
use Rattle.strand_rules.specs.Cycle.{write_after}
use Rattle.strand_rules.specs.Machine.{Machine}
use Rattle.strand_rules.specs.Kept.{seen}
use Rattle.strand_rules.proofs.Marks.{marks_set}
use Rattle.strand_rules.proofs.MachineInvariant.{kept_write}
use Rattle.strand_events.proofs.EventWithin.{event_within}
use Rattle.strand_rules.proofs.Fields.{room_seen, request_seen, persist_seen, reached_seen}
use Rattle.strand_rules.proofs.pipeline.Pipeline.write.Goals as goal

pub index_mut-requires-2 : goal.index_mut-requires-2
index_mut-requires-2 c =
    let m = seen c.self.inside in
    let t = m.state.now.trace in
    let is : event_is is_persist t c.args.p ≡ true = persist_seen m _ c.self.view_is c.args.p c.requires.persist in
    let number = c.requires.number ∙ ap (λ (m : Machine). persist_number m.state.now.trace c.args.p) (sym c.self.view_is) in
    omega (
      arith,
      number,
      count_strict c.args.p c.args.p (length t) (event_is is_persist t) (omega arith) (event_within is_persist t c.args.p is) is,
      list_length (length t) (event_is is_persist t),
      length-map (persists_of t) (set_of m.state.durable),
      ap length c.self.invariant.persisted,
      c.self.inside.persisted.ok.0,
    )

pub invariant_of-self : goal.invariant_of-self
invariant_of-self c =
    let m = seen c.self.inside in
    let t = m.state.now.trace in
    let held_all = c.self.invariant in
    let is : event_is is_persist t c.args.p ≡ true = persist_seen m _ c.self.view_is c.args.p c.requires.persist in
    let there : slice_get m.state.flight c.args.j ≡ Some c.args.p = request_seen m _ c.self.view_is c.args.j c.args.p c.requires.request in
    let room : m.made < m.steps = room_seen m _ c.self.view_is c.requires.room in
    let number = c.requires.number ∙ ap (λ (m : Machine). persist_number m.state.now.trace c.args.p) (sym c.self.view_is) in
    let inside = event_within is_persist t c.args.p is in
    let marked = marks_set (length t) (event_is is_persist t) m.state.durable c.args.p true inside is (omega (arith, inside, held_all.kept.durable)) in
    record {
      kept = rw (c.remove.ensures.items) (kept_write m c.args.j c.args.p held_all.kept room (slice_get_within m.state.flight c.args.j c.args.p there));
      reached = rw (c.remove.ensures.items) (reached_seen m _ c.self.view_is (λ m. write_after m.state c.args.j (Some c.args.p)) c.requires.reached);
      persisted = ap (λ k. slice_set c.self.inside.persisted.items k true) number ∙ ap (λ marks. slice_set marks (persist_number t c.args.p) true) held_all.persisted ∙ sym marked;
      room = held_all.room;
      retired_room = held_all.retired_room;
      buffered_room = held_all.buffered_room;
      durable_room = held_all.durable_room;
      persisted_room = held_all.persisted_room;
      flight_room = omega (arith, c.remove.ensures.capacity, held_all.flight_room);
    }
