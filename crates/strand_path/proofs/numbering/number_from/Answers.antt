use Rattle.std.proofs.Common.{arith}
use Rattle.strand_events.specs.Trace.{event_is, is_persist}
use Rattle.strand_events.proofs.TraceInvariant.{count_most}
use Rattle.strand_path.proofs.numbering.number_from.Goals as goal

pub loop-k-init : goal.loop-k-init
loop-k-init c = record { counted = c.requires.number; small = omega (arith, c.requires.number, count_most c.args.from (event_is is_persist c.args.events.now)) }
