-- Serves no clause: draws of seed 1, by computation.
-- The first states of seed 1, and its first step, so that a wrong shift in a definition does not check.
use Rattle.std.proofs.Common.{◌≡◌, [], ◌∷◌, refl}
use Rattle.strand_inputs.specs.declared.step.Step.TheVariants.{Dispatch}
use Rattle.strand_gen.specs.Draws.{initial_state, next_state, draw_list}
use Rattle.strand_gen.specs.Inputs.{step_by, generated_schedule}

pub first_state_of_seed_1 : next_state (initial_state 1) ≡ 1082269761
unfolding next_state
first_state_of_seed_1 = refl

pub second_state_of_seed_1 : next_state 1082269761 ≡ 1152992998833853505
unfolding next_state
second_state_of_seed_1 = refl

pub first_step_of_seed_1 : generated_schedule 1 1 ≡ Dispatch 1 ∷ []
unfolding next_state draw_list step_by generated_schedule
first_step_of_seed_1 = refl
