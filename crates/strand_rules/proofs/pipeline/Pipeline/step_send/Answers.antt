use Rattle.std.proofs.Common.{◌≡◌, sym, ap, ◌∙◌}
use Rattle.std.specs.Prelude.{Some, slice_get}
use Rattle.strand_rules.specs.Cycle.{eligible}
use Rattle.strand_rules.specs.Machine.{Machine}
use Rattle.strand_rules.proofs.IsReached.{send_reached_with_some}
use Rattle.strand_rules.proofs.pipeline.Pipeline.step_send.Goals as goal

pub send-requires-clause-reached : goal.send-requires-clause-reached
send-requires-clause-reached c =
    let m = c.args.self.now in
    let found : Some c.in-Some.p ≡ slice_get (eligible m.config m.state c.args.n c.args.b) c.args.j =
    c.in-Some.ensures.eligible ∙ ap (λ (m : Machine). slice_get (eligible m.config m.state c.args.n c.args.b) c.args.j) c.new.ensures in
    send_reached_with_some m c.args.n c.args.b c.args.j c.in-Some.p c.keeps.ensures.reached found (sym c.if-flight_full.ensures.full)
