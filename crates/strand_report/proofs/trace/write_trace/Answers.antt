use Rattle.std.proofs.Common.{◌≡◌, ◌++◌, subst}
use Rattle.std.proofs.lemmas.Result.{err_from_is_err_and}
use Rattle.strand_base.specs.Puts.{AppendsFront, Puts}
use Rattle.strand_base.proofs.AppendsFront.{front_before, puts_after}
use Rattle.strand_report.specs.Trace.{event_lines, edge_lines}
use Rattle.strand_report.proofs.trace.write_trace.Goals as goal

pub returns-in_err-put_events : goal.returns-in_err-put_events
returns-in_err-put_events c =
    let p = err_from_is_err_and c.from_residual.result c.from_residual.ensures.1 in
    rw p.1 (front_before (event_lines c.args.trace.now.events) _ _ _ (subst (λ t. AppendsFront (event_lines t) c.args.into.now.items c.put_events.new.into.items) c.events.ensures.events c.in_err-put_events.ensures))

pub returns : goal.returns
returns c = puts_after c.put_edges.result (event_lines c.args.trace.now.events) _ _ c.put_events.new.into.items _ (subst (λ t. c.put_events.new.into.items ≡ c.args.into.now.items ++ event_lines t) c.events.ensures.events c.in_ok-put_events.ensures) (subst (λ es. Puts c.put_edges.result (edge_lines es) c.put_events.new.into.items c.put_edges.new.into.items) c.edges.ensures.edges c.put_edges.ensures)
