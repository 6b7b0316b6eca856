use Rattle.std.proofs.Common.{◌≡◌, ◌<◌, arith}
use Rattle.strand_modules.proofs.MovesWords.{moves_none, moves_more}
use Rattle.strand_modules.proofs.transfer.move_words.Goals as goal

pub loop-copied-init : goal.loop-copied-init
loop-copied-init g c = λ size. moves_none size _ _ _

pub load_part-requires : goal.load_part-requires
load_part-requires g c = let some : 0 < c.args.count = omega arith in omega (arith, (c.loop-copied.invariant 0).size_from, c.requires.from some)

pub store_part-requires : goal.store_part-requires
store_part-requires g c = let some : 0 < c.args.count = omega arith in omega (arith, (c.loop-copied.invariant 0).size_to, c.requires.to some)

pub returns-in-Err-store_part : goal.returns-in-Err-store_part
returns-in-Err-store_part g c = λ size. (c.loop-copied-test.true, (_, _, c.in-Ok.value, c.in-Err-store_part.field-0, c.loop-copied.invariant size, c.in-Ok.ensures, c.in-Err-store_part.ensures))

pub returns-in-Err : goal.returns-in-Err
returns-in-Err g c = λ size. (c.loop-copied-test.true, (_, c.in-Err.field-0, c.loop-copied.invariant size, c.in-Err.ensures))

pub loop-copied-preserved : goal.loop-copied-preserved
loop-copied-preserved g c = λ size.
    let some : 0 < c.args.count = omega arith in
    moves_more size c.args.first c.loop-copied.copied c.in-Ok.value _ _ _ _ _ _ (omega (arith, c.requires.to some)) (c.loop-copied.invariant size) c.in-Ok.ensures c.in_default.ensures

pub returns : goal.returns
returns g c = λ size.
    let all : c.loop-copied.copied ≡ c.args.count = omega arith in
    rw all at (c.loop-copied.invariant size)
