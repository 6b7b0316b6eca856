-- The waits that are kept of persists, by the fields.
use Rattle.strand_machine.specs.declared.waiting.Waiting.TheInside.{Inside}
use Rattle.strand_machine.specs.Stand.{Waiting}

abbrev pub waiting_of : Inside → Waiting
waiting_of w = record { waits = w.waits.items; room = w.room }
