use Rattle.std.proofs.Common.{◌≡◌, ◌<◌, ◌≤◌, ℕ, true, slice_index}
use Rattle.strand_events.specs.Trace.{event_is, is_persist}
use Rattle.strand_path.proofs.checking.are_positive.Given as goal

abbrev pub invariant-loop-p : goal.invariant-loop-p
invariant-loop-p l = (p : ℕ) → p < l.p → event_is is_persist l.events p ≡ true → 1 ≤ slice_index l.levels p
