use Rattle.std.proofs.Common.{◌≡◌, ◌++◌, take}
use Rattle.strand_report.specs.Outs.{out_lines}
use Rattle.strand_report.proofs.outs.put_outs.Given as goal

abbrev pub invariant-loop-event : goal.invariant-loop-event
invariant-loop-event l = l.into.items ≡ l.fn.into.items ++ out_lines (take l.event-index l.events)
