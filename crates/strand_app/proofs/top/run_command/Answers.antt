use Rattle.strand_app.proofs.Calls.{command_runs, no_command_runs}
use Rattle.strand_app.proofs.top.run_command.Goals as goal

pub returns-in-None : goal.returns-in-None
returns-in-None g c = rw (← c.in-None.ensures) (no_command_runs _ _ _ _ c.put_text.ensures)

pub returns-in-Some : goal.returns-in-Some
returns-in-Some g c = rw (← c.in-Some.ensures) (command_runs _ _ _ _ _ c.make-made.ensures c.finish.ensures.made c.finish.ensures.memory)
