use Rattle.std.proofs.Common.{arith}
use Rattle.std.proofs.lemmas.Result.{err_from_is_err_and}
use Rattle.strand_base.proofs.AppendsFront.{loop_more, loop_all, loop_stops}
use Rattle.strand_base.specs.LittleEndian.{bytes_of_u64}
use Rattle.strand_base.proofs.little_endian.put_u64s.Goals as goal

pub returns-in_err-put_u64 : goal.returns-in_err-put_u64
returns-in_err-put_u64 c =
    let p = err_from_is_err_and c.from_residual.result c.from_residual.ensures.1 in
    rw p.1 (loop_stops bytes_of_u64 c.args.numbers.now c.loop-number.number-index 0 _ _ _ (omega arith) c.loop-number.invariant c.in_err-put_u64.ensures)

pub loop-number-preserved : goal.loop-number-preserved
loop-number-preserved c = loop_more bytes_of_u64 c.args.numbers.now c.loop-number.number-index 0 _ _ _ (omega arith) c.loop-number.invariant c.in_ok-put_u64.ensures

pub returns : goal.returns
returns c = loop_all bytes_of_u64 c.args.numbers.now c.loop-number.number-index _ _ (omega arith) c.loop-number.invariant
