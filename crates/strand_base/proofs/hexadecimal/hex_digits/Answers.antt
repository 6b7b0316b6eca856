use Rattle.std.proofs.Common.{◌-◌, ◌*◌, ◌/◌, ◌%◌, ◌^◌, rules}
use Rattle.std.proofs.lemmas.List.FromFn.{fill_by_all}
use Rattle.strand_base.specs.Hexadecimal.{hex16, hex_digit}
use Rattle.strand_base.proofs.hexadecimal.hex_digits.Goals as goal

pub returns : goal.returns
unfolding hex16
returns c =
    fill_by_all (λ k. hex_digit (c.args.n / 2 ^ (60 - 4 * k) % 16)) c.loop-k.digits 16 0 c.loop-k.invariant.0 (search rules)
