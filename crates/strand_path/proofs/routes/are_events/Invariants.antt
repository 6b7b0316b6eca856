use Rattle.std.proofs.Common.{◌<◌, ℕ, length, slice_index}
use Rattle.strand_path.proofs.routes.are_events.Given as goal

abbrev pub invariant-loop-event : goal.invariant-loop-event
invariant-loop-event l = (k : ℕ) → k < l.event-index → slice_index l.route k < length l.events
