use Rattle.strand_events.specs.Order.{set_of}
use Rattle.strand_judge.specs.Images.{IsImageBelow}
use Rattle.strand_judge.proofs.images.image_of.Given as goal

abbrev pub invariant-loop-k : goal.invariant-loop-k
invariant-loop-k l = IsImageBelow l.events (set_of l.marks) l.first l.k l.image.items
