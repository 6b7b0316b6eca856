use Rattle.strand_events.specs.Order.{set_of}
use Rattle.strand_judge.proofs.Verdicts.Image.{image_step}
use Rattle.strand_judge.proofs.images.image_of.Goals as goal

pub loop-k-preserved : goal.loop-k-preserved
loop-k-preserved c = image_step c.args.events.now (set_of c.args.marks.now) c.args.first.now c.loop-k.k c.loop-k.image.items c.put_value.new.image.items c.requires.within c.put_value.ensures c.loop-k.invariant
