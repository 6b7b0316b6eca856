use Rattle.strand_events.proofs.Waits.Counts.{counted_earlier}
use Rattle.strand_events.proofs.Waits.LongerTrace.{wait_kept}
use Rattle.strand_events.proofs.Waits.IsMet.{counts_means, met_means, met_from}
use Rattle.strand_events.proofs.Waits.Prefixes.{met_firsts, firsts_met}
use Rattle.strand_events.proofs.laws.waits_are_met_by_prefixes.Goals as goal

pub returns-clause-kept : goal.returns-clause-kept
returns-clause-kept c = wait_kept

pub returns-clause-earlier : goal.returns-clause-earlier
returns-clause-earlier c = λ mode t x p h. counted_earlier mode t x p ((counts_means mode t x p h).1)

pub returns-clause-prefixes : goal.returns-clause-prefixes
returns-clause-prefixes c = λ mode t durable x. (λ h. met_firsts mode t durable x (met_means mode t durable x h), λ each. met_from mode t durable x (firsts_met mode t durable x each))
