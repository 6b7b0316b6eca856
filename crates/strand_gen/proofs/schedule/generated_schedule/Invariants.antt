use Rattle.std.proofs.Common.{◌≡◌, length}
use Rattle.std.specs.Prelude.{All}
use Rattle.strand_inputs.specs.Schedule.{IsBelow}
use Rattle.strand_gen.specs.Draws.{draw_list, initial_state}
use Rattle.strand_gen.specs.Inputs.{step}
use Rattle.strand_gen.proofs.schedule.generated_schedule.Given as goal

abbrev pub invariant-loop : goal.invariant-loop
invariant-loop l =
    (l.schedule ≡ (draw_list l.counter step (initial_state l.seed)).0) × (l.draws.state ≡ (draw_list l.counter step (initial_state l.seed)).1)
    × (length l.schedule ≡ l.counter) × All (IsBelow 2 2) l.schedule
