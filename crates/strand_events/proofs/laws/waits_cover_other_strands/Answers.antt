use Rattle.strand_events.proofs.Waits.Counts.{wait_is}
use Rattle.strand_events.proofs.Waits.OtherStrands.{covered, handed_to}
use Rattle.strand_events.proofs.laws.waits_cover_other_strands.Goals as goal

pub returns-clause-greatest : goal.returns-clause-greatest
returns-clause-greatest c = wait_is

pub returns-clause-counted : goal.returns-clause-counted
returns-clause-counted c = covered

pub returns-clause-handed : goal.returns-clause-handed
returns-clause-handed c = handed_to
