use Rattle.strand_events.proofs.PersistOrder.Laws.{before_forward, before_chain, words_before, epochs_order, strands_join}
use Rattle.strand_events.proofs.laws.persist_order_laws.Goals as goal

pub returns-clause-forward : goal.returns-clause-forward
returns-clause-forward c = before_forward

pub returns-clause-chains : goal.returns-clause-chains
returns-clause-chains c = before_chain

pub returns-clause-words : goal.returns-clause-words
returns-clause-words c = words_before

pub returns-clause-epochs : goal.returns-clause-epochs
returns-clause-epochs c = epochs_order

pub returns-clause-joins : goal.returns-clause-joins
returns-clause-joins c = strands_join
