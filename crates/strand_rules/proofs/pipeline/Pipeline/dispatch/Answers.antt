use Rattle.std.proofs.Common.{◌≡◌, ◌<◌, ◌+◌, ◌∙◌, arith, sym, ap, subst}
use Rattle.std.specs.Prelude.{slice_set}
use Rattle.strand_rules.specs.Cycle.{gone, front, item_after}
use Rattle.strand_rules.specs.Looking.{marked_at}
use Rattle.strand_rules.specs.Machine.{Machine, FrontIs, made_to}
use Rattle.strand_rules.specs.Kept.{seen}
use Rattle.strand_rules.specs.Pipeline.{IsReachedWithSome}
use Rattle.strand_rules.proofs.Front.{front_few}
use Rattle.strand_rules.proofs.Fields.{front_seen, room_seen, reached_seen, few_events}
use Rattle.strand_rules.proofs.FrontIs.{front_there, persist_within, dispatched_state, kept_dispatched}
use Rattle.strand_rules.proofs.pipeline.Pipeline.dispatch.Goals as goal

pub mark_item-requires-clause-few : goal.mark_item-requires-clause-few
mark_item-requires-clause-few c =
    let m = seen c.self.inside in
    let is : FrontIs m.config m.state c.args.n c.args.persist = front_seen m _ c.self.view_is c.args.n c.args.persist c.requires.front in
    let first = front_there m.config m.state c.args.n c.args.persist is in
    omega (arith, front_few m.config m.state c.args.n first.0 first.1, few_events m c.self.invariant.kept)

pub mark_item-requires-clause-event : goal.mark_item-requires-clause-event
mark_item-requires-clause-event c =
    let m = seen c.self.inside in
    persist_within m.config m.state c.args.n c.args.persist c.self.invariant.kept.buffered (front_seen m _ c.self.view_is c.args.n c.args.persist c.requires.front)

pub invariant_of-self : goal.invariant_of-self
invariant_of-self c =
    let m = seen c.self.inside in
    let is : FrontIs m.config m.state c.args.n c.args.persist = front_seen m _ c.self.view_is c.args.n c.args.persist c.requires.front in
    let room : m.made < m.steps = room_seen m _ c.self.view_is c.requires.room in
    let reached : IsReachedWithSome m.config m.program (item_after m.state c.args.n (front m.config m.state c.args.n)) = reached_seen m _ c.self.view_is (λ m. item_after m.state c.args.n (front m.config m.state c.args.n)) c.requires.reached in
    let d : c.mark_item.new.dispatched.items ≡ slice_set m.state.dispatched c.args.n (gone m.state c.args.n + 1) = c.mark_item.ensures.dispatched in
    let b : c.mark_item.new.buffered.items ≡ marked_at m.state.buffered c.args.persist = c.mark_item.ensures.buffered in
    let known = c.self.invariant in
    record {
      kept = rw (d, b) (kept_dispatched m c.args.n c.args.persist is known.kept room);
      reached = rw (d, b) (subst (IsReachedWithSome m.config m.program) (sym (dispatched_state m.config m.state c.args.n c.args.persist is)) reached);
      persisted = known.persisted;
      room = known.room;
      retired_room = known.retired_room;
      buffered_room = omega (arith, c.mark_item.ensures.room, known.buffered_room);
      durable_room = known.durable_room;
      persisted_room = known.persisted_room;
      flight_room = known.flight_room;
    }

pub returns : goal.returns
returns c =
    let m = seen c.self.inside in
    let is : FrontIs m.config m.state c.args.n c.args.persist = front_seen m _ c.self.view_is c.args.n c.args.persist c.requires.front in
    let d : c.mark_item.new.dispatched.items ≡ slice_set m.state.dispatched c.args.n (gone m.state c.args.n + 1) = c.mark_item.ensures.dispatched in
    let b : c.mark_item.new.buffered.items ≡ marked_at m.state.buffered c.args.persist = c.mark_item.ensures.buffered in
    rw (d, b) (ap (made_to m) (dispatched_state m.config m.state c.args.n c.args.persist is))
    ∙ ap (λ (m : Machine). made_to m (item_after m.state c.args.n (front m.config m.state c.args.n))) c.self.view_is
