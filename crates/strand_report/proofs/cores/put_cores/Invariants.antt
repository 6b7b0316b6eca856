use Rattle.std.proofs.Common.{◌≡◌, ◌++◌}
use Rattle.strand_report.specs.Cores.{core_lines}
use Rattle.strand_report.proofs.NumberedLoop.{numbered_so_far}
use Rattle.strand_report.proofs.cores.put_cores.Given as goal

abbrev pub invariant-loop-core : goal.invariant-loop-core
invariant-loop-core l = l.into.items ≡ l.fn.into.items ++ numbered_so_far core_lines l.core l.cores
