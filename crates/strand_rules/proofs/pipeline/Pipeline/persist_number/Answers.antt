use Rattle.std.proofs.Common.{ap, arith, length}
use Rattle.strand_events.specs.Trace.{event_is, is_persist}
use Rattle.strand_events.proofs.TraceInvariant.{count_most}
use Rattle.strand_events.proofs.EventWithin.{event_within}
use Rattle.strand_rules.specs.Machine.{Machine}
use Rattle.strand_rules.proofs.pipeline.Pipeline.persist_number.Goals as goal

pub overflow_cast-result : goal.overflow_cast-result
overflow_cast-result c =
    let within = event_within is_persist c.args.self.now.state.now.trace c.args.p c.requires in
    omega (
      arith,
      within,
      c.persist_number.ensures,
      count_most c.args.p (event_is is_persist c.events.result.now),
      ap length c.events.ensures.events,
      ap (λ (m : Machine). length m.state.now.trace) c.self.view_is,
      c.events.ensures.within,
      c.events.ensures.small,
    )
