use Rattle.strand_rules.proofs.PartsAreKept.{good_parts, good_in_order, good_met}
use Rattle.strand_events.proofs.Waits.OtherStrands.{accounted}
use Rattle.strand_rules.proofs.Buffers.OneStrand.{fit_buffers}
use Rattle.strand_rules.proofs.IsReached.{reached_good, reached_fit}
use Rattle.strand_rules.proofs.laws.parts_are_kept.Goals as goal

pub returns-clause-parts : goal.returns-clause-parts
returns-clause-parts c = λ g p s reached. good_parts g s (reached_good g p s reached)

pub returns-clause-accounted : goal.returns-clause-accounted
returns-clause-accounted c = accounted

pub returns-clause-met : goal.returns-clause-met
returns-clause-met c = λ g p s reached. good_met g s (reached_good g p s reached)

pub returns-clause-in_order : goal.returns-clause-in_order
returns-clause-in_order c = λ g p s reached. good_in_order g s (reached_good g p s reached)

pub returns-clause-buffers : goal.returns-clause-buffers
returns-clause-buffers c = λ g p s reached. fit_buffers g s (reached_fit g p s reached)
