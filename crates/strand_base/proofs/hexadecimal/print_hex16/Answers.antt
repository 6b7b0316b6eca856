use Rattle.std.proofs.Common.{arith}
use Rattle.strand_base.proofs.HexAgain.{hex_again}
use Rattle.strand_base.proofs.hexadecimal.print_hex16.Goals as goal

pub returns-clause-again : goal.returns-clause-again
returns-clause-again c = hex_again c.args.n (omega arith)
