use Rattle.strand_events.proofs.Waits.Next.{next_wait}
use Rattle.strand_events.proofs.Waits.Vectors.{own_moves, others_stay}
use Rattle.strand_events.proofs.laws.waits_are_kept_by_vectors.Goals as goal

pub returns-clause-next : goal.returns-clause-next
returns-clause-next c = λ mode t e core is. next_wait t e mode core is

pub returns-clause-own : goal.returns-clause-own
returns-clause-own c = own_moves

pub returns-clause-others : goal.returns-clause-others
returns-clause-others c = others_stay
