use Rattle.std.proofs.Common.{◌∷◌, arith, decimal}
use Rattle.std.proofs.lemmas.Result.{err_from_is_err_and}
use Rattle.strand_base.proofs.AppendsFront.{loop_more, loop_all, loop_stops}
use Rattle.strand_report.proofs.members.put_numbers.Goals as goal

pub returns-in_err-put_spaced : goal.returns-in_err-put_spaced
returns-in_err-put_spaced c =
    let p = err_from_is_err_and c.from_residual.result c.from_residual.ensures.1 in
    rw p.1 (loop_stops (λ n. 32 ∷ decimal n) c.args.members.now c.loop-member.member-index 0 _ _ _ (omega arith) c.loop-member.invariant c.in_err-put_spaced.ensures)

pub loop-member-preserved : goal.loop-member-preserved
loop-member-preserved c = loop_more (λ n. 32 ∷ decimal n) c.args.members.now c.loop-member.member-index 0 _ _ _ (omega arith) c.loop-member.invariant c.in_ok-put_spaced.ensures

pub returns : goal.returns
returns c = loop_all (λ n. 32 ∷ decimal n) c.args.members.now c.loop-member.member-index _ _ (omega arith) c.loop-member.invariant
