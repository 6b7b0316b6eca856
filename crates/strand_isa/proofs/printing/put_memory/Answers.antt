use Rattle.std.specs.Fmt.{signed_decimal}
use Rattle.std.proofs.lemmas.Int.{to_z-of_z}
use mir.Syntax.{w32}
use Rattle.std.proofs.lemmas.Result.{err_from_is_err_and}
use Rattle.strand_base.proofs.AppendsFront.{front_before, puts_after}
use Rattle.strand_isa.proofs.printing.put_memory.Goals as goal

pub returns-in_err-put_number : goal.returns-in_err-put_number
returns-in_err-put_number c =
    let p = err_from_is_err_and c.from_residual.result c.from_residual.ensures.1 in
    let h = rw (to_z-of_z w32 c.args.offset c.ranges.offset) at c.in_err-put_number.ensures in
    rw p.1 (front_before (signed_decimal c.args.offset) _ _ _ h)

pub returns : goal.returns
returns c =
    let h = rw (to_z-of_z w32 c.args.offset c.ranges.offset) at c.in_ok-put_number.ensures in
    puts_after c.put_base.result (signed_decimal c.args.offset) _ _ _ _ h c.put_base.ensures
