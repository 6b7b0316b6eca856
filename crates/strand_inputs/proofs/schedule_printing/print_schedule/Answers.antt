use Rattle.strand_inputs.proofs.ScheduleAgain.{schedule_again}
use Rattle.strand_inputs.proofs.schedule_printing.print_schedule.Goals as goal

pub returns-clause-again : goal.returns-clause-again
returns-clause-again c = λ cores buffers few_cores few_buffers below. schedule_again cores buffers _ few_cores few_buffers c.steps.ensures.limits below
