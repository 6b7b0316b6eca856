use Rattle.std.proofs.Common.{List}
use Rattle.strand_inputs.specs.declared.mode.Mode.{Mode}
use Rattle.strand_events.specs.declared.event.Event.{Event}
use Rattle.strand_path.specs.Tracing.{AreVias}
use Rattle.strand_path.proofs.LongestPath.WayBack.{IsBack}
use Rattle.strand_path.proofs.walking.walk.Given as goal

abbrev pub invariant-loop-x : goal.invariant-loop-x
invariant-loop-x l = (mode : Mode) (t : List Event) → AreVias mode t l.traces.levels.items l.traces.firsts.items l.traces.vias.items → IsBack mode t l.traces.firsts.items l.traces.vias.items l.p l.q l.x l.back.items

abbrev pub decreases-loop-x : goal.decreases-loop-x
decreases-loop-x l = l.x
