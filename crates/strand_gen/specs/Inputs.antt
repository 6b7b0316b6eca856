-- The machine, and the drawn schedule.
use Rattle.std.specs.Prelude.{ℕ, ◌==◌, List, if◌then◌else◌}
use Rattle.strand_inputs.specs.Settings.{Settings}
use Rattle.strand_inputs.specs.declared.conflict.Conflict.TheVariants.{Stall}
use Rattle.strand_inputs.specs.declared.mode.Mode.TheVariants.{Strand}
use Rattle.strand_inputs.specs.declared.step.Step.{Step}
use Rattle.strand_inputs.specs.declared.step.Step.TheVariants.{Core, Dispatch, Send, Write}
use Rattle.strand_gen.specs.Draws.{Drawn, ◌>>=◌, give, draw, draw_list, initial_state}

abbrev pub generated_machine : Settings
generated_machine = record { mode = Strand; queue = 16; buffers = 2; ring = 8; flight = 4; sets = 4; ways = 2; conflict = Stall }

-- c N, d N, s N B J, w J
abbrev pub core_step : Drawn Step
core_step = do
  core ← draw 2
  give (Core core)

abbrev pub dispatch_step : Drawn Step
dispatch_step = do
  core ← draw 2
  give (Dispatch core)

abbrev pub send_step : Drawn Step
send_step = do
  core ← draw 2
  buffer ← draw 2
  place ← draw 2
  give (Send core buffer place)

abbrev pub write_step : Drawn Step
write_step = do
  place ← draw 4
  give (Write place)

-- the step by a number below 4
unfoldable pub step_by : ℕ → Drawn Step
step_by k = if k == 0 then core_step else (if k == 1 then dispatch_step else (if k == 2 then send_step else write_step))

abbrev pub step : Drawn Step
step = do
  k ← draw 4
  step_by k

-- so many steps from a fresh state
unfoldable pub generated_schedule : ℕ → ℕ → List Step
generated_schedule seed size = (draw_list size step (initial_state seed)).0
