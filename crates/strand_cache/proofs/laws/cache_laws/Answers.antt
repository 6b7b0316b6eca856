-- The laws are lemmas.
use Rattle.strand_cache.proofs.Lists.Step.{step_hits, step_stands}
use Rattle.strand_cache.proofs.Lists.Once.{lines_counted}
use Rattle.strand_cache.proofs.Lists.Totals.{hits_step, misses_step}
use Rattle.strand_cache.proofs.laws.cache_laws.Goals as goal

pub returns-clause-hits : goal.returns-clause-hits
returns-clause-hits c shape cores before xs x = step_hits shape cores before xs x

pub returns-clause-steps : goal.returns-clause-steps
returns-clause-steps c shape cores before after xs x = step_stands shape cores before after xs x

pub returns-clause-counted : goal.returns-clause-counted
returns-clause-counted c shape core line xs i s bound = lines_counted shape core line xs i s bound

pub returns-clause-hits_rise : goal.returns-clause-hits_rise
returns-clause-hits_rise c shape core xs x = hits_step shape core xs x

pub returns-clause-misses_rise : goal.returns-clause-misses_rise
returns-clause-misses_rise c shape core xs x = misses_step shape core xs x
