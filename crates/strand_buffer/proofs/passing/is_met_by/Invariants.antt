use Rattle.std.proofs.Common.{◌≡◌}
use Rattle.strand_base.specs.Counting.{any_below}
use Rattle.strand_buffer.proofs.EntryWait.{asks_more}
use Rattle.strand_buffer.proofs.passing.is_met_by.Given as goal

abbrev pub invariant-loop-c : goal.invariant-loop-c
invariant-loop-c l = l.over ≡ any_below l.c (asks_more l.durable l.entries l.i)
