use Rattle.std.proofs.Common.{◌<◌, length, arith, sym, subst, ap, ◌∙◌}
use Rattle.std.specs.Prelude.{vec_capacity, vec_len}
use Rattle.strand_rules.specs.Visible.{with_event}
use Rattle.strand_rules.specs.Cycle.{core_after, IsReached}
use Rattle.strand_rules.specs.Machine.{Machine, made_to}
use Rattle.strand_rules.specs.Next.{AreKeptWaits, IsNextWait}
use Rattle.strand_rules.specs.Pipeline.{with_memory}
use Rattle.strand_rules.proofs.KeptWaits.{kept_more, room_for, room_kept}
use Rattle.strand_rules.proofs.Retire.Machine.{retired_reached, retired_with}
use Rattle.strand_rules.proofs.Fields.{room_seen, runs_within, event_within, core_reached_within, event_room}
use Rattle.strand_rules.proofs.plain_machine.PlainMachine.retire.Goals as goal

pub retire-requires-clause-reached : goal.retire-requires-clause-reached
retire-requires-clause-reached c =
    let m = c.self.inside in
    let runs = runs_within m.memory m.pipeline _ c.self.view_is c.args.n c.args.effect c.requires.runs in
    let event = event_within m.memory m.pipeline _ c.self.view_is c.args.n c.args.plan c.args.event c.requires.event in
    let reached = core_reached_within m.memory m.pipeline _ c.self.view_is c.args.n c.args.event c.requires.reached in
    retired_reached m.memory m.pipeline c.args.n c.args.effect c.args.plan c.args.event c.act-loaded.result runs c.requires.plan event c.act-loaded.ensures.loaded reached

pub keep_wait-requires : goal.keep_wait-requires
keep_wait-requires c =
    let m = c.self.inside in
    let room = room_seen (with_memory m.memory m.pipeline) _ c.self.view_is c.requires.room in
    let fewer : length m.pipeline.state.now.trace < vec_capacity m.waits = omega (arith, event_room m.pipeline c.keeps.ensures.kept room, c.self.invariant.waits_room) in
    let less = room_kept m.pipeline.config.conflict m.pipeline.config.mode m.pipeline.state.now.trace m.waits.items (vec_capacity m.waits) c.self.invariant.waits fewer in
    room_for c.next_wait-wait.result (vec_len m.waits) (vec_capacity m.waits) (omega (arith, less))

pub invariant_of-self : goal.invariant_of-self
invariant_of-self c =
    let m = c.self.inside in
    let runs = runs_within m.memory m.pipeline _ c.self.view_is c.args.n c.args.effect c.requires.runs in
    let event = event_within m.memory m.pipeline _ c.self.view_is c.args.n c.args.plan c.args.event c.requires.event in
    let reached = core_reached_within m.memory m.pipeline _ c.self.view_is c.args.n c.args.event c.requires.reached in
    let left = retired_with m.memory m.pipeline c.args.n c.args.effect c.args.plan c.args.event c.act-loaded.result runs c.requires.plan event c.act-loaded.ensures.loaded c.act-loaded.new.memory c.retire.new.self c.act-loaded.ensures.memory c.retire.ensures in
    record {
      extents = c.act-loaded.ensures.extents ∙ c.self.invariant.extents ∙ sym (ap (λ (m : Machine). m.program.sizes) c.retire.ensures);
      reached = subst (λ (m : Machine). IsReached m.config m.program m.state) (sym left) reached;
      waits = subst (λ (new : Machine). AreKeptWaits new.config.conflict new.config.mode new.state.now.trace c.keep_wait.new.waits.items) (sym c.retire.ensures)
          (subst (AreKeptWaits m.pipeline.config.conflict m.pipeline.config.mode (with_event m.pipeline.state.now.trace c.args.event)) (sym c.keep_wait.ensures.waits)
          (kept_more m.pipeline.config.conflict m.pipeline.config.mode m.pipeline.state.now.trace m.waits.items c.args.event c.next_wait-wait.result c.self.invariant.waits
          (subst (λ (m : Machine). IsNextWait m.config.conflict m.config.mode m.state.now.trace c.args.event c.next_wait-wait.result) (sym c.self.view_is) c.next_wait-wait.ensures)));
      waits_room = omega (arith, c.keep_wait.ensures.room, c.self.invariant.waits_room, ap (λ (m : Machine). m.steps) c.retire.ensures);
    }

pub returns : goal.returns
returns c =
    let m = c.self.inside in
    let runs = runs_within m.memory m.pipeline _ c.self.view_is c.args.n c.args.effect c.requires.runs in
    let event = event_within m.memory m.pipeline _ c.self.view_is c.args.n c.args.plan c.args.event c.requires.event in
    retired_with m.memory m.pipeline c.args.n c.args.effect c.args.plan c.args.event c.act-loaded.result runs c.requires.plan event c.act-loaded.ensures.loaded c.act-loaded.new.memory c.retire.new.self c.act-loaded.ensures.memory c.retire.ensures
    ∙ ap (λ (m : Machine). made_to m (core_after m.program m.state c.args.n c.args.event)) c.self.view_is
