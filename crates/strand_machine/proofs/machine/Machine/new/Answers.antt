use Rattle.std.proofs.Common.{◌≡◌, ◌∙◌, map, sym, ap, subst}
use Rattle.strand_exec.specs.Core.{fresh}
use Rattle.strand_exec.specs.Memory.{extents_of}
use Rattle.strand_rules.specs.Cycle.{IsReached}
use Rattle.strand_rules.specs.Machine.{Machine, machine_at, program_of, start_of}
use Rattle.strand_rules.specs.Pipeline.{with_memory}
use Rattle.strand_rules.proofs.IsReached.{start_reached}
use Rattle.strand_machine.specs.KeptMachine.{IsKeptRingMachine}
use Rattle.strand_machine.specs.Stand.{PartsSeen}
use Rattle.strand_machine.proofs.Stand.Start.{rooms_new, stand_new, wait_room_new}
use Rattle.strand_machine.proofs.machine.Machine.new.Goals.{In_ok-parts}
use Rattle.strand_machine.proofs.machine.Machine.new.Goals as goal

machine_is : (c : In_ok-parts) → with_memory c.in_ok-parts.parts.cache.memory c.in_ok-pipeline.pipeline ≡ machine_at c.args.config.now c.args.image.now c.args.steps
machine_is c = ap (λ (p : PartsSeen). with_memory p.cache.memory c.in_ok-pipeline.pipeline) c.in_ok-parts.ensures.parts ∙ ap (with_memory (start_of c.args.image.now).now.memory) c.in_ok-pipeline.ensures

stays_kept : (c : In_ok-parts) → IsKeptRingMachine (record { pipeline = c.in_ok-pipeline.pipeline; parts = c.in_ok-parts.parts })
stays_kept c =
    let is = machine_is c in
    let m = with_memory c.in_ok-parts.parts.cache.memory c.in_ok-pipeline.pipeline in
    let known = c.in_ok-parts.ensures in
    record {
      stand = stand_new c.args.config.now c.args.image.now c.args.steps m c.in_ok-parts.parts is known.parts (known.extents ∙ c.sizes.ensures ∙ ap (λ (m : Machine). m.program.sizes) c.in_ok-pipeline.ensures) known.strands known.made known.noted known.accesses;
      rooms = rooms_new c.args.config.now c.args.image.now c.args.steps m c.in_ok-parts.parts is known.parts;
      wait_room = wait_room_new c.args.config.now c.args.image.now c.args.steps m c.in_ok-parts.parts is known.parts;
      reached = subst (λ (m : Machine). IsReached m.config m.program m.state) (sym is) (start_reached c.args.config.now (program_of c.args.image.now) (map fresh c.args.image.now.entries) (start_of c.args.image.now).now.memory);
      extents = ap (λ (m : Machine). extents_of m.state.now.memory) is ∙ sym (ap (λ (m : Machine). m.program.sizes) is);
    }

pub returns-clause-machine : goal.returns-clause-machine
returns-clause-machine c = machine_is (goal.at.returns-clause-machine c).In_ok-parts

pub returns-clause-parts : goal.returns-clause-parts
returns-clause-parts c = (stays_kept (goal.at.returns-clause-parts c).In_ok-parts).stand

pub invariant_of-result : goal.invariant_of-result
invariant_of-result c = stays_kept (goal.at.invariant_of-result c).In_ok-parts
