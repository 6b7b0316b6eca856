use Rattle.std.proofs.Common.{◌≡◌, ◌≤◌, ℕ, true, length, subst, sym, ap, ◌∙◌, arith}
use Rattle.std.specs.Prelude.{slice_index, slice_index_or}
use Rattle.strand_events.specs.Trace.{event_is, is_persist}
use Rattle.strand_order.specs.declared.edge.Edge.{Edge}
use Rattle.strand_order.specs.Edges.{edges_of}
use Rattle.strand_order.proofs.Edges.List.{listed_edge, edge_at}
use Rattle.strand_path.specs.Checked.{goes_up}
use Rattle.strand_path.proofs.Check.Edges.{ends_at, one_more, all_rise}
use Rattle.strand_path.proofs.checking.are_levels.Goals as goal

pub goes_up-requires-clause-i : goal.goes_up-requires-clause-i
goes_up-requires-clause-i c =
    omega (arith, (ends_at c.args.graph.now.mode c.args.graph.now.events _ c.edges-edge-items.ensures.edges c.loop-edge.edge-index (omega (arith, c.loop-edge-test.true))).0, c.if-levels-events.false, ap length c.events.ensures.events)

pub goes_up-requires-clause-j : goal.goes_up-requires-clause-j
goes_up-requires-clause-j c =
    omega (arith, (ends_at c.args.graph.now.mode c.args.graph.now.events _ c.edges-edge-items.ensures.edges c.loop-edge.edge-index (omega (arith, c.loop-edge-test.true))).1, c.if-levels-events.false, ap length c.events.ensures.events)

pub returns-then-not-goes_up-clause-no : goal.returns-then-not-goes_up-clause-no
returns-then-not-goes_up-clause-no c = λ a.
    let mode = c.args.graph.now.mode in
    let t = c.args.graph.now.events in
    let at = edge_at mode t c.edges-edge-items.result.now c.edges-edge-items.ensures.edges c.loop-edge.edge-index (record { before = 0; after = 0 }) (omega (arith, c.loop-edge-test.true)) in
    let e : Edge = slice_index_or c.edges-edge-items.result.now c.loop-edge.edge-index (record { before = 0; after = 0 }) in
    sym c.if-not-goes_up.true ∙ c.goes_up.ensures ∙ ap (λ ev. goes_up ev c.args.levels.now e.before e.after) c.events-in-loop-edge.ensures.events ∙ a.rise e.before e.after (listed_edge mode t (length t) c.loop-edge.edge-index _ at).0

pub loop-edge-preserved : goal.loop-edge-preserved
loop-edge-preserved c =
    let mode = c.args.graph.now.mode in
    let t = c.args.graph.now.events in
    let at = edge_at mode t c.edges-edge-items.result.now c.edges-edge-items.ensures.edges c.loop-edge.edge-index (record { before = 0; after = 0 }) (omega (arith, c.loop-edge-test.true)) in
    let e : Edge = slice_index_or c.edges-edge-items.result.now c.loop-edge.edge-index (record { before = 0; after = 0 }) in
    one_more mode t (λ (f : Edge). goes_up t c.args.levels.now f.before f.after) true c.loop-edge.edge-index e at
    (sym (ap (λ ev. goes_up ev c.args.levels.now e.before e.after) c.events-in-loop-edge.ensures.events) ∙ sym c.goes_up.ensures ∙ c.if-not-goes_up.false) c.loop-edge.invariant

pub returns-clause-yes : goal.returns-clause-yes
returns-clause-yes c = λ e.
    let mode = c.args.graph.now.mode in
    let t = c.args.graph.now.events in
    let all : length (edges_of mode t) ≤ c.loop-edge.edge-index = omega (arith, c.loop-edge-test.false, ap length c.edges-edge-items.ensures.edges) in
    record {
      long = omega (arith, c.if-levels-events.false, ap length c.events.ensures.events);
      least = subst (λ ev. (p : ℕ) → event_is is_persist ev p ≡ true → 1 ≤ slice_index c.args.levels.now p) c.events-else-levels-events.ensures.events (c.are_positive.ensures.yes c.if-not-are_positive.false);
      rise = all_rise mode t c.loop-edge.edge-index c.args.levels.now all c.loop-edge.invariant;
    }
