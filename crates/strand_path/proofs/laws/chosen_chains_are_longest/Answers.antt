use Rattle.strand_path.proofs.ChosenChains.{chosen_one, chosen_chain, chosen_longest}
use Rattle.strand_path.proofs.laws.chosen_chains_are_longest.Goals as goal

pub returns-clause-one : goal.returns-clause-one
returns-clause-one c = chosen_one

pub returns-clause-chain : goal.returns-clause-chain
returns-clause-chain c = chosen_chain

pub returns-clause-longest : goal.returns-clause-longest
returns-clause-longest c = chosen_longest
