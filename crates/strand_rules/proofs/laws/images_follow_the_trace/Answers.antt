use Rattle.strand_rules.proofs.Image.AllWords.{image_begins, image_more, image_one}
use Rattle.strand_rules.proofs.laws.images_follow_the_trace.Goals as goal

pub returns-clause-begins : goal.returns-clause-begins
returns-clause-begins c = image_begins

pub returns-clause-grows : goal.returns-clause-grows
returns-clause-grows c = image_more

pub returns-clause-stores : goal.returns-clause-stores
returns-clause-stores c = image_one
