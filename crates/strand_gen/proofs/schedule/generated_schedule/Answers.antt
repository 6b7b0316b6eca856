use Rattle.std.proofs.Common.{ℕ, List, [], ◌∷◌, ◌++◌, length, arith, sym, ap, ◌∙◌}
use Rattle.std.proofs.lemmas.List.{length-append}
use Rattle.std.proofs.lemmas.List.Elements.{All-nil, All-push, All-same}
use Rattle.strand_inputs.specs.Schedule.{IsBelow}
use Rattle.strand_inputs.specs.declared.step.Step.{Step}
use Rattle.strand_gen.specs.Draws.{draw_list, initial_state}
use Rattle.strand_gen.specs.Inputs.{step}
use Rattle.strand_gen.proofs.DrawList.{one_more}
use Rattle.strand_gen.proofs.schedule.generated_schedule.Goals as goal

pub loop-init : goal.loop-init
unfolding draw_list
loop-init c =
    (c.new-schedule.ensures, c.of_seed-draws.ensures, ap length c.new-schedule.ensures, All-same (IsBelow 2 2) _ [] c.new-schedule.ensures (All-nil (IsBelow 2 2)))

pub loop-preserved : goal.loop-preserved
loop-preserved c =
    let so_far = c.loop.invariant in
    let here = c.in_ok-push.ensures.ok in
    let more = one_more c.loop.counter step (initial_state c.args.seed) c.loop.draws.state c.step.result c.step.new.draws.state so_far.1 c.step.ensures.drawn in (
      here ∙ ap (λ (steps : List Step). steps ++ c.step.result ∷ []) so_far.0 ∙ sym (ap (λ (drawn : List Step × ℕ). drawn.0) more),
      sym (ap (λ (drawn : List Step × ℕ). drawn.1) more),
      omega (arith, ap length here, length-append c.loop.schedule (c.step.result ∷ []), so_far.2),
      All-same (IsBelow 2 2) _ _ here (All-push (IsBelow 2 2) _ _ so_far.3 c.step.ensures.below),
    )
