use Rattle.std.proofs.Common.{◌≡◌, ◌++◌}
use Rattle.strand_report.specs.Cores.{reg_line}
use Rattle.strand_report.proofs.NumberedLoop.{numbered_so_far}
use Rattle.strand_report.proofs.cores.put_regs.Given as goal

abbrev pub invariant-loop-reg : goal.invariant-loop-reg
invariant-loop-reg l = l.into.items ≡ l.fn.into.items ++ numbered_so_far (reg_line l.core) l.reg l.regs
