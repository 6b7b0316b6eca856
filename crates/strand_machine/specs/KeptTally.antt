-- What is counted of a core, by the fields.
use Rattle.strand_machine.specs.declared.tally.CoreTally.TheInside.{Inside}
use Rattle.strand_machine.specs.Stand.{Tally}

abbrev pub tally_of : Inside → Tally
tally_of c = record { numbers = c.numbers.items; first = c.first; strand = c.strand; waits = c.waits; room = c.room }
