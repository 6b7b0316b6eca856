use Rattle.std.proofs.Common.{sym, subst, ◌∙◌}
use Rattle.strand_rules.specs.Cycle.{item_after}
use Rattle.strand_rules.specs.Machine.{FrontIs}
use Rattle.strand_rules.specs.Pipeline.{IsReachedWithSome}
use Rattle.strand_rules.proofs.IsReached.{item_reached_with_some}
use Rattle.strand_rules.proofs.FrontIs.{front_told}
use Rattle.strand_rules.proofs.pipeline.Pipeline.step_dispatch.Goals as goal

pub dispatch-requires-clause-front : goal.dispatch-requires-clause-front
dispatch-requires-clause-front c =
    let m = c.args.self.now in
    subst (FrontIs m.config m.state c.args.n) (sym c.persist_in-persist.ensures) (front_told m.config m.state c.args.n c.in-Some.k (sym c.in-Some.ensures.front))

pub dispatch-requires-clause-reached : goal.dispatch-requires-clause-reached
dispatch-requires-clause-reached c =
    let m = c.args.self.now in
    subst (λ o. IsReachedWithSome m.config m.program (item_after m.state c.args.n o)) c.in-Some.ensures.front
    (item_reached_with_some m c.args.n c.in-Some.k c.keeps.ensures.reached (sym c.in-Some.ensures.front) (sym c.item_turn-turn.ensures ∙ c.in-Done.is))
