use Rattle.std.proofs.Common.{◌≡◌, ◌+◌, ◌≤◌, length, sym, ap, ◌∙◌, arith, subst}
use Rattle.std.specs.Prelude.{slice_index, slice_index_or, replicate}
use Rattle.std.proofs.lemmas.List.{length-replicate, get_or-replicate}
use Rattle.strand_order.specs.declared.edge.Edge.{Edge}
use Rattle.strand_order.specs.Edges.{edges_of}
use Rattle.strand_order.proofs.Edges.List.{listed_edge, edge_at, ends_within}
use Rattle.strand_order.proofs.Paths.Steps.{edge_less}
use Rattle.strand_path.specs.Building.{AreOwn, raised}
use Rattle.strand_path.proofs.Check.Edges.{ends_at}
use Rattle.strand_path.proofs.LongestPath.Levels.{raised_first, raised_levels, raised_supported}
use Rattle.strand_path.specs.Tracing.{firsts_after, vias_after}
use Rattle.strand_path.proofs.LongestPath.Links.{AreTraced, traced_first, traced_more, traced_linked, traced_firsts}
use Rattle.strand_path.proofs.tracing.traces_of.Goals as goal

pub loop-edge-init : goal.loop-edge-init
loop-edge-init c =
    let t = c.args.graph.now.events in
    let levels = c.in_ok-own_levels.field-0.items in
    let own = subst (λ ev. AreOwn ev (length ev) levels) c.events-events.ensures.events c.in_ok-own_levels.ensures in
    let one : c.in_ok-zeros.field-0.items ≡ replicate (length t) 0 = c.in_ok-zeros.ensures ∙ ap (λ ev. replicate (length ev) 0) c.events-events.ensures.events in
    let two : c.in_ok-zeros-2.field-0.items ≡ replicate (length t) 0 = c.in_ok-zeros-2.ensures ∙ ap (λ ev. replicate (length ev) 0) c.events-events.ensures.events in
    traced_first c.args.graph.now.mode t levels c.in_ok-zeros.field-0.items c.in_ok-zeros-2.field-0.items (raised_first c.args.graph.now.mode t levels own) own.own (ap length one ∙ length-replicate (length t) 0) (ap length two ∙ length-replicate (length t) 0) (λ k lt. ap (λ xs. slice_index xs k) two ∙ get_or-replicate (length t) k 0 0 lt)

pub follow-requires-clause-before : goal.follow-requires-clause-before
follow-requires-clause-before c =
    omega (arith, (ends_at c.args.graph.now.mode c.args.graph.now.events _ c.edges-edge-items.ensures.edges c.loop-edge.edge-index (omega (arith, c.loop-edge-test.true))).0, ap length c.events-events.ensures.events)

pub follow-requires-clause-after : goal.follow-requires-clause-after
follow-requires-clause-after c =
    omega (arith, (ends_at c.args.graph.now.mode c.args.graph.now.events _ c.edges-edge-items.ensures.edges c.loop-edge.edge-index (omega (arith, c.loop-edge-test.true))).1, ap length c.events-events.ensures.events)

pub follow-requires-clause-small : goal.follow-requires-clause-small
follow-requires-clause-small c =
    let mode = c.args.graph.now.mode in
    let t = c.args.graph.now.events in
    let at = edge_at mode t c.edges-edge-items.result.now c.edges-edge-items.ensures.edges c.loop-edge.edge-index (record { before = 0; after = 0 }) (omega (arith, c.loop-edge-test.true)) in
    let e : Edge = slice_index_or c.edges-edge-items.result.now c.loop-edge.edge-index (record { before = 0; after = 0 }) in
    omega (arith, c.loop-edge.invariant.raised_so.small e.before, (ends_within mode t c.loop-edge.edge-index e at), edge_less mode t e.before e.after (listed_edge mode t (length t) c.loop-edge.edge-index e at).0, c.events-events.ensures.small)

pub follow-requires-clause-small_before : goal.follow-requires-clause-small_before
follow-requires-clause-small_before c =
    omega (arith, (ends_at c.args.graph.now.mode c.args.graph.now.events _ c.edges-edge-items.ensures.edges c.loop-edge.edge-index (omega (arith, c.loop-edge-test.true))).0, c.events-events.ensures.small)

pub loop-edge-preserved : goal.loop-edge-preserved
loop-edge-preserved c =
    let mode = c.args.graph.now.mode in
    let t = c.args.graph.now.events in
    let at = edge_at mode t c.edges-edge-items.result.now c.edges-edge-items.ensures.edges c.loop-edge.edge-index (record { before = 0; after = 0 }) (omega (arith, c.loop-edge-test.true)) in
    let e : Edge = slice_index_or c.edges-edge-items.result.now c.loop-edge.edge-index (record { before = 0; after = 0 }) in
    let levels = c.loop-edge.traces.levels.items in
    let firsts = c.loop-edge.traces.firsts.items in
    let vias = c.loop-edge.traces.vias.items in
    let made_levels : c.follow.new.traces.levels.items ≡ raised t e levels = c.follow.ensures.levels ∙ ap (λ ev. raised ev e levels) c.events-events.ensures.events in
    let made_firsts : c.follow.new.traces.firsts.items ≡ firsts_after t levels firsts e = c.follow.ensures.firsts ∙ ap (λ ev. firsts_after ev levels firsts e) c.events-events.ensures.events in
    let made_vias : c.follow.new.traces.vias.items ≡ vias_after t levels firsts vias e = c.follow.ensures.vias ∙ ap (λ ev. vias_after ev levels firsts vias e) c.events-events.ensures.events in
    subst (λ x. AreTraced mode t (c.loop-edge.edge-index + 1) x c.follow.new.traces.firsts.items c.follow.new.traces.vias.items) (sym made_levels)
    (subst (λ x. AreTraced mode t (c.loop-edge.edge-index + 1) (raised t e levels) x c.follow.new.traces.vias.items) (sym made_firsts)
    (subst (λ x. AreTraced mode t (c.loop-edge.edge-index + 1) (raised t e levels) (firsts_after t levels firsts e) x) (sym made_vias)
    (traced_more mode t c.loop-edge.edge-index e levels firsts vias at c.loop-edge.invariant)))

pub returns : goal.returns
returns c =
    let mode = c.args.graph.now.mode in
    let t = c.args.graph.now.events in
    let n = c.loop-edge.edge-index in
    let all : length (edges_of mode t) ≤ n = omega (arith, c.loop-edge-test.false, ap length c.edges-edge-items.ensures.edges) in
    record {
      levels = raised_levels mode t n c.loop-edge.traces.levels.items all c.loop-edge.invariant.raised_so;
      supported = raised_supported mode t n c.loop-edge.traces.levels.items c.loop-edge.invariant.raised_so;
      firsts = traced_firsts mode t n c.loop-edge.traces.levels.items c.loop-edge.traces.firsts.items c.loop-edge.traces.vias.items all c.loop-edge.invariant;
      linked = traced_linked mode t n c.loop-edge.traces.levels.items c.loop-edge.traces.firsts.items c.loop-edge.traces.vias.items all c.loop-edge.invariant;
    }
