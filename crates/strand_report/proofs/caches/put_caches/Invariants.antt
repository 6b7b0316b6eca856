use Rattle.std.proofs.Common.{◌≡◌, ◌++◌}
use Rattle.strand_report.specs.Caches.{cache_line}
use Rattle.strand_report.proofs.NumberedLoop.{numbered_so_far}
use Rattle.strand_report.proofs.caches.put_caches.Given as goal

abbrev pub invariant-loop-core : goal.invariant-loop-core
invariant-loop-core l = l.into.items ≡ l.fn.into.items ++ numbered_so_far cache_line l.core l.cores
