use Rattle.strand_inputs.specs.Schedule.{schedule_text}
use Rattle.strand_app.proofs.GenCommands.{generated_comes, generated_fails}
use Rattle.strand_app.proofs.commands.gen_schedule.schedule_generated.Goals as goal

pub returns-in-Ok : goal.returns-in-Ok
returns-in-Ok c = λ same. generated_comes c.args.seed c.args.size (λ u. schedule_text u.steps) same _ _ c.in-Ok.ensures.given c.schedule_file.ensures

pub returns-in-Err : goal.returns-in-Err
returns-in-Err c = λ same. generated_fails c.args.seed c.args.size (λ u. schedule_text u.steps) same _ _ c.in-Err.ensures.given c.refuse.ensures
