use Rattle.std.proofs.Common.{arith, ap, length}
use Rattle.strand_events.proofs.TraceInvariant.{persists_most}
use Rattle.strand_events.proofs.trace.Trace.persists.Goals as goal

pub overflow_cast-result : goal.overflow_cast-result
overflow_cast-result c =
    let kept = c.self.invariant.0 in
    omega (arith, c.len.ensures, c.self.inside.persists.ok.0, ap length kept.persists_are, persists_most c.self.inside.events.items, kept.within, kept.small)
