use Rattle.strand_rules.proofs.Order.Run.{run_closed, run_joined}
use Rattle.strand_rules.proofs.IsReached.{reached_stands}
use Rattle.strand_rules.proofs.laws.durable_sets_are_allowed.Goals as goal

pub returns-clause-closed : goal.returns-clause-closed
returns-clause-closed c = run_closed

pub returns-clause-joined : goal.returns-clause-joined
returns-clause-joined c = run_joined

pub returns-clause-stands : goal.returns-clause-stands
returns-clause-stands c = reached_stands
