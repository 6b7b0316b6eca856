use Rattle.std.proofs.Common.{◌≡◌, false}
use Rattle.strand_control.specs.Flight.{older_waits}
use Rattle.strand_control.proofs.controller.older_waits.Given as goal

abbrev pub invariant-loop-i : goal.invariant-loop-i
invariant-loop-i l = older_waits l.requests l.i l.word ≡ false
