use Rattle.std.proofs.Common.{arith}
use Rattle.std.proofs.lemmas.Grind.{common_steps}
use Rattle.strand_base.proofs.BelowBound.{list_length}
use Rattle.strand_rules.proofs.past.Past.item_count.Goals as goal

pub returns : goal.returns
returns c = grind (arith, common_steps, list_length)
