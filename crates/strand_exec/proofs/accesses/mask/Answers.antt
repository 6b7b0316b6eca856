use Rattle.std.proofs.Common.{◌-◌, ◌^◌, arith}
use Rattle.std.proofs.lemmas.Nat.{one_shl, pow_pos, shl_whole}
use Rattle.strand_exec.proofs.accesses.mask.Goals as goal

pub returns : goal.returns
returns c =
    let w = c.args.width in
    let pw = pow_pos w in
    let one = one_shl w 64 c.requires.width in
    rw one (shl_whole (2 ^ w - 1) w c.args.place 64 (omega arith) c.requires.place)
