use Rattle.std.proofs.Common.{subst}
use Rattle.strand_events.specs.Order.{IsDownwardClosed, HoldsJoined}
use Rattle.strand_rules.specs.Cycle.{durable_set}
use Rattle.strand_rules.specs.Machine.{Machine}
use Rattle.strand_rules.specs.Kept.{seen}
use Rattle.strand_rules.specs.Pipeline.{state_with}
use Rattle.strand_rules.proofs.IsReached.{reached_closed, reached_joined}
use Rattle.strand_rules.proofs.pipeline.Pipeline.durable.Goals as goal

pub returns-clause-closed : goal.returns-clause-closed
returns-clause-closed c =
    let m = seen c.self.inside in
    let reached = c.self.invariant.reached in
    subst (λ (m : Machine). IsDownwardClosed m.config.mode m.state.now.trace (durable_set m.state)) c.self.view_is (reached_closed m.config m.program (state_with reached.0 m.state) reached.1)

pub returns-clause-joined : goal.returns-clause-joined
returns-clause-joined c =
    let m = seen c.self.inside in
    let reached = c.self.invariant.reached in
    subst (λ (m : Machine). HoldsJoined m.state.now.trace (durable_set m.state)) c.self.view_is (reached_joined m.config m.program (state_with reached.0 m.state) reached.1)
