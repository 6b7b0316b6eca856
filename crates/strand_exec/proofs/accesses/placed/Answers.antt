use Rattle.std.proofs.Common.{◌%◌, ◌^◌}
use Rattle.std.proofs.lemmas.Nat.{one_shl, pow_pos, shl_whole, mod_below}
use Rattle.strand_exec.proofs.accesses.placed.Goals as goal

pub returns : goal.returns
returns c =
    let w = c.args.width in
    let pw = pow_pos w in
    let one = one_shl w 64 c.requires.width in
    rw one (shl_whole (c.args.value % 2 ^ w) w c.args.place 64 (mod_below c.args.value (2 ^ w) pw) c.requires.place)
