use Rattle.std.proofs.Common.{◌≤◌, sym, arith, subst}
use Rattle.strand_order.specs.Lasts.{cut}
use Rattle.strand_order.proofs.Edges.Walk.{WalkedTo, walk_first, walk_step, walk_end, cut_most, last_within}
use Rattle.strand_order.proofs.walking.walk.Goals as goal
use Rattle.strand_order.proofs.walking.walk.Goals.{then-last-gt0, else-last-gt0+then-single-gt0}

pub loop-last-init : goal.loop-last-init
loop-last-init c = record {
  bounded = omega (arith, c.cut-last.ensures, cut_most c.args.sources.floor c.args.sources.last, c.requires.last);
  walked = λ n chain a. subst (λ x. WalkedTo c.args.sources n chain x c.args.sources.single c.new-list.result.items) (sym c.cut-last.ensures) (subst (λ xs. WalkedTo c.args.sources n chain (cut c.args.sources.floor c.args.sources.last) c.args.sources.single xs) (sym c.new-list.ensures.items) (walk_first c.args.links.now c.args.sources n chain a));
}

pub loop-last-preserved : goal.loop-last-preserved
loop-last-preserved c =
    let one : 1 ≤ c.max-next.result = elim c.if-last-gt0.branch [ then-last-gt0 w ↦ omega (arith, w.if-last-gt0.true, c.max-next.ensures) | else-last-gt0+then-single-gt0 w ↦ omega (arith, w.if-single-gt0.true, c.max-next.ensures) ] in
    let bound = last_within c.args.links.now c.args.sources.floor c.loop-last.last c.max-next.result c.last_after-last.result c.requires.back c.loop-last.invariant.bounded one c.last_after-last.ensures in
    record {
      bounded = omega (arith, bound.0, c.loop-last.invariant.bounded);
      walked = λ n chain a. subst (λ xs. WalkedTo c.args.sources n chain c.last_after-last.result c.single_after-single.result xs) (sym c.in_ok-push.ensures.items) (walk_step c.args.links.now c.args.sources n chain a c.loop-last.last c.loop-last.single c.max-next.result c.last_after-last.result c.single_after-single.result c.loop-last.list.items (c.loop-last.invariant.walked n chain a) c.max-next.ensures one c.last_after-last.ensures c.single_after-single.ensures);
    }

pub returns : goal.returns
returns c = λ n chain a. walk_end c.args.links.now c.args.sources n chain a c.loop-last.last c.loop-last.single c.loop-last.list.items (c.loop-last.invariant.walked n chain a) (omega (arith, c.if-last-gt0.false)) (omega (arith, c.if-single-gt0.false))
