use Rattle.std.proofs.Common.{arith}
use Rattle.strand_inputs.proofs.CrashSpelling.{crash_again}
use Rattle.strand_inputs.proofs.crash.print_crash.Goals as goal

pub returns-clause-again : goal.returns-clause-again
returns-clause-again c = crash_again c.args.words.now (λ k lt. omega (arith, c.type_inv.words k))
