use Rattle.std.proofs.Common.{◌≡◌, ◌≤◌, [], length, map, refl, sym, ap, subst, ◌∙◌}
use Rattle.std.specs.Prelude.{vec_capacity}
use Rattle.strand_exec.specs.Core.{fresh}
use Rattle.strand_rules.specs.Cycle.{IsReached}
use Rattle.strand_rules.specs.Machine.{Machine, program_of}
use Rattle.strand_rules.specs.Next.{AreKeptWaits}
use Rattle.strand_rules.specs.Pipeline.{state_with}
use Rattle.strand_rules.proofs.IsReached.{start_reached}
use Rattle.strand_rules.proofs.KeptWaits.{none_kept}
use Rattle.strand_rules.proofs.plain_machine.PlainMachine.new.Goals as goal

pub invariant_of-result : goal.invariant_of-result
invariant_of-result c =
    let memory = c.in_ok-copy.field-0 in
    let image = c.args.image.now in
    let volatile : length memory.volatile ≡ length image.volatile = ap length (c.in_ok-copy.ensures.0 ∙ c.volatile.ensures.volatile) in
    let persistent : length memory.persistent ≡ length image.persistent = ap length (c.in_ok-copy.ensures.1 ∙ c.persistent.ensures.persistent) in
    record {
      extents = rw (volatile, persistent) refl ∙ sym (ap (λ (m : Machine). m.program.sizes) c.in_ok-new.ensures);
      reached = subst (λ (m : Machine). IsReached m.config m.program (state_with memory m.state)) (sym c.in_ok-new.ensures)
          (start_reached c.args.config.now (program_of image) (map fresh image.entries) memory);
      waits = subst (λ (m : Machine). AreKeptWaits m.config.conflict m.config.mode m.state.now.trace c.in_ok-with_capacity.field-0.items) (sym c.in_ok-new.ensures)
          (subst (AreKeptWaits c.args.config.now.conflict c.args.config.now.mode []) (sym c.in_ok-with_capacity.ensures.items) (none_kept c.args.config.now.conflict c.args.config.now.mode));
      waits_room = subst (λ (m : Machine). m.steps ≤ vec_capacity c.in_ok-with_capacity.field-0) (sym c.in_ok-new.ensures) c.in_ok-with_capacity.ensures.capacity;
    }
