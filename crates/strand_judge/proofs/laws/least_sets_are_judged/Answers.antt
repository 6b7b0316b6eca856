use Rattle.strand_judge.proofs.Least.Sets.{judged_both, settled_both, settled_all, least_judged}
use Rattle.strand_judge.proofs.laws.least_sets_are_judged.Goals as goal

pub returns-clause-judged : goal.returns-clause-judged
returns-clause-judged c = judged_both

pub returns-clause-settled : goal.returns-clause-settled
returns-clause-settled c = settled_both

pub returns-clause-all : goal.returns-clause-all
returns-clause-all c = settled_all

pub returns-clause-least : goal.returns-clause-least
returns-clause-least c = λ mode t crash least set l j. least_judged mode t crash least set l.settled l.least j
