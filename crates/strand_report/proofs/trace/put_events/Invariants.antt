use Rattle.std.proofs.Common.{◌≡◌, ◌++◌}
use Rattle.strand_events.specs.Trace.{is_persist, event_is}
use Rattle.strand_report.specs.Trace.{event_text}
use Rattle.strand_report.proofs.CountLoop.{Counted}
use Rattle.strand_report.proofs.NumberedLoop.{numbered_so_far}
use Rattle.strand_report.proofs.trace.put_events.Given as goal

abbrev pub invariant-loop-place : goal.invariant-loop-place
invariant-loop-place l = (l.into.items ≡ l.fn.into.items ++ numbered_so_far (event_text l.events) l.place l.events) × Counted (event_is is_persist l.events) l.place l.persists
