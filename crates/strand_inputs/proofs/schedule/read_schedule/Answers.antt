use Rattle.std.proofs.Common.{Ok}
use Rattle.strand_inputs.proofs.Below.{read_below}
use Rattle.strand_inputs.proofs.schedule.read_schedule.Goals as goal

pub returns-clause-below : goal.returns-clause-below
returns-clause-below c = read_below c.args.cores c.args.buffers c.args.text.now (Ok c.in_ok-items.items.items) c.in_ok-items.ensures.gives
