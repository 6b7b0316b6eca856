use Rattle.std.proofs.Common.{arith, length, ◌≤◌, ◌<◌, drop, length-drop}
use Rattle.std.proofs.lemmas.List.{take_rest}
use Rattle.strand_base.proofs.TakesAll.{takes_more}
use Rattle.strand_base.proofs.putting.put_all.Goals as goal

pub loop-at-preserved : goal.loop-at-preserved
loop-at-preserved g c =
    let inside : c.loop-at.at < length c.args.text.now = omega arith in
    let front = rw take_rest at c.in_ok-at.ensures in
    let bound : c.in_ok-at.field-0 ≤ length (drop c.loop-at.at c.args.text.now) = front.bound in (
      omega (arith, bound, length-drop c.loop-at.at c.args.text.now),
      takes_more _ _ _ c.args.text.now c.loop-at.at c.in_ok-at.field-0 inside c.loop-at.invariant.1 front,
    )
