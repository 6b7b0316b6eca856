-- The parts of the fields.
use Rattle.strand_machine.specs.declared.parts.Parts.TheInside.{Inside}
use Rattle.strand_machine.specs.Stand.{PartsSeen}

abbrev pub parts_seen : Inside → PartsSeen
parts_seen p = record { queues = p.queues.items; buffers = p.buffers.items; tags = p.tags; control = p.control; tallies = p.tallies.items; waiting = p.waiting; cache = p.cache }
