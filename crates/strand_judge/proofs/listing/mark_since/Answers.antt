use Rattle.std.proofs.Common.{◌-◌, arith}
use Rattle.strand_judge.proofs.Least.Marks.{marked_one}
use Rattle.strand_judge.proofs.listing.mark_since.Goals as goal

pub returns : goal.returns
returns c = λ n l. marked_one n c.args.since (c.args.since - 1) c.args.marks.now.items c.args.list.now.items c.mark.new.marks.items c.mark.new.list.items (omega (arith, c.if-since-eq0.false)) (omega (arith, c.if-since-eq0.false, c.requires.within, l.long)) l c.in_ok-mark.ensures.marks c.in_ok-mark.ensures.list
