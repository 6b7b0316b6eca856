use Rattle.std.proofs.Common.{refl, arith, subst}
use Rattle.strand_judge.proofs.Least.JoinedNumbers.{joined_at, joined_within}
use Rattle.strand_judge.specs.Gathered.{AreJoined}
use Rattle.strand_judge.proofs.Least.Seeds.{joined_none, joined_more}
use Rattle.strand_judge.proofs.seeding.mark_joined.Goals as goal

pub bounds-persists-p : goal.bounds-persists-p
bounds-persists-p c = (joined_at c.args.events.now c.args.persists.now c.args.joined.now c.requires.persists c.requires.joined c.loop-p.p-index (omega (arith, c.loop-p-test.true))).0

pub mark-requires : goal.mark-requires
mark-requires c =
    let at = joined_at c.args.events.now c.args.persists.now c.args.joined.now c.requires.persists c.requires.joined c.loop-p.p-index (omega (arith, c.loop-p-test.true)) in
    omega (arith, joined_within c.args.events.now _ at.1, c.loop-p.invariant.listed.long)

pub loop-p-init : goal.loop-p-init
loop-p-init c = joined_none c.args.events.now c.args.persists.now c.args.joined.now c.args.marks.now.items c.args.list.now.items c.requires.marks c.requires.list

pub loop-p-preserved : goal.loop-p-preserved
loop-p-preserved c = joined_more c.args.events.now c.args.persists.now c.args.joined.now c.requires.persists c.requires.joined c.loop-p.p-index (omega (arith, c.loop-p-test.true)) _ refl c.loop-p.marks.items c.loop-p.list.items c.mark.new.marks.items c.mark.new.list.items c.loop-p.invariant c.in_ok-mark.ensures.marks c.in_ok-mark.ensures.list

pub returns : goal.returns
returns c = subst (λ n. AreJoined c.args.events.now n c.args.persists.now c.args.joined.now c.loop-p.marks.items c.loop-p.list.items) (omega (arith, c.loop-p-test.false, c.loop-p.auto.p-index-end)) c.loop-p.invariant
