-- gen-schedule SEED SIZE: the generated schedule.
use Rattle.std.specs.Prelude.{ℕ, []}
use Rattle.strand_inputs.specs.Schedule.{schedule_text}
use Rattle.strand_modules.specs.Bank.{BankSeen}
use Rattle.strand_again.specs.Inputs.{Inputs}
use Rattle.strand_app.specs.Generated.{generated}
use Rattle.strand_app.specs.Reads.{decided}
use Rattle.strand_app.specs.Rule.{Rule}
use Rattle.strand_app.specs.Still.{still_rule}

abbrev pub gen_schedule_rule : (seed size : ℕ) → BankSeen → Rule
gen_schedule_rule seed size = still_rule Inputs [] (λ contents. decided (generated seed size)) (λ u. schedule_text u.steps)
