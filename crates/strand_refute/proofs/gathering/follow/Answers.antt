use Rattle.std.proofs.Common.{◌≡◌, ◌<◌, ◌-◌, ◌∙◌, inl, inr, length, true, Some, ap, sym, arith, subst}
use Rattle.std.specs.Prelude.{slice_get, slice_index, slice_index_or}
use Rattle.std.proofs.lemmas.Option.{slice_get-get_or}
use Rattle.strand_events.specs.declared.event.Event.{Event}
use Rattle.strand_events.specs.declared.event.Event.TheVariants.{Load}
use Rattle.std.proofs.lemmas.List.{get_or_read}
use Rattle.strand_events.specs.Order.{set_of}
use Rattle.strand_events.specs.Trace.{is_access, event_is}
use Rattle.strand_refute.specs.Work.{IsTarget}
use Rattle.strand_order.specs.declared.edge.Edge.{Edge}
use Rattle.strand_order.specs.Graph.{is_edge}
use Rattle.strand_order.specs.Edges.{edges_of}
use Rattle.strand_order.proofs.Edges.List.{edge_at, ends_within, listed_edge}
use Rattle.strand_order.proofs.Edges.LastEvent.{since_most}
use Rattle.strand_judge.specs.Ends.{leads_at}
use Rattle.strand_judge.proofs.Least.Edges.{follow_first, follow_step, follow_end}
use Rattle.strand_refute.specs.declared.certificate.Reason.TheVariants.{Order}
use Rattle.strand_refute.proofs.Refutes.Explained.{explained_more, edge_direct, edge_target, targets_long}
use Rattle.strand_refute.proofs.gathering.follow.Goals as goal

pub loop-k-init : goal.loop-k-init
loop-k-init c =
    let mode = c.args.graph.now.mode in
    let t = c.args.graph.now.events in
    record {
      bound = omega (arith, c.requires.end, since_most (length (edges_of mode t)) (leads_at mode t c.args.j), ap length c.edges-edges.ensures.edges);
      followed = follow_first mode t c.args.j c.args.end c.requires.end c.args.work.now.marks.items c.args.work.now.list.items c.requires.listed;
      targets = c.requires.targets;
      explained = λ crash ex. ex;
    }

pub bounds-events-x : goal.bounds-events-x
bounds-events-x c =
    let mode = c.args.graph.now.mode in
    let t = c.args.graph.now.events in
    let at = edge_at mode t c.edges-edges.result.now c.edges-edges.ensures.edges (c.loop-k.k - 1) (record { before = 0; after = 0 }) (omega (arith, c.loop-k.invariant.bound, c.loop-k-test.true)) in
    omega (arith, (ends_within mode t (c.loop-k.k - 1) _ at).0, ap length c.events-events.ensures.events)

pub need-requires-clause-marks : goal.need-requires-clause-marks
need-requires-clause-marks c =
    let mode = c.args.graph.now.mode in
    let t = c.args.graph.now.events in
    let at = edge_at mode t c.edges-edges.result.now c.edges-edges.ensures.edges (c.loop-k.k - 1) (record { before = 0; after = 0 }) (omega (arith, c.loop-k.invariant.bound, c.loop-k-test.true)) in
    omega (arith, (ends_within mode t (c.loop-k.k - 1) _ at).0, (c.loop-k.invariant.followed.listed).long)

pub need-requires-clause-targets : goal.need-requires-clause-targets
need-requires-clause-targets c =
    let mode = c.args.graph.now.mode in
    let t = c.args.graph.now.events in
    let at = edge_at mode t c.edges-edges.result.now c.edges-edges.ensures.edges (c.loop-k.k - 1) (record { before = 0; after = 0 }) (omega (arith, c.loop-k.invariant.bound, c.loop-k-test.true)) in
    omega (arith, (ends_within mode t (c.loop-k.k - 1) _ at).0, c.loop-k.invariant.targets)

pub loop-k-preserved : goal.loop-k-preserved
loop-k-preserved c =
    let mode = c.args.graph.now.mode in
    let t = c.args.graph.now.events in
    let j = c.args.j in
    let k = c.loop-k.k - 1 in
    let start = c.args.work.now in
    let old = c.loop-k.work in
    let new = c.need.new.work in
    let target = c.index-target.result.now in
    let edge : Edge = slice_index_or c.edges-edges.result.now k (record { before = 0; after = 0 }) in
    let at = edge_at mode t c.edges-edges.result.now c.edges-edges.ensures.edges k (record { before = 0; after = 0 }) (omega (arith, c.loop-k.invariant.bound, c.loop-k-test.true)) in
    let x = edge.before in
    let within : x < length t = (ends_within mode t k edge at).0 in
    let e : Event = slice_index_or c.events-events.result.now x (Load 0 0) in
    let there : slice_get t x ≡ Some e = slice_get-get_or t x (Load 0 0) within ∙ ap (λ xs. Some (slice_index_or xs x (Load 0 0))) (sym c.events-events.ensures.events) in
    let leads : is_edge mode t x j ≡ true = ap (is_edge mode t x) (sym c.if-edges-k.true) ∙ (listed_edge mode t (length t) k edge at).0 in
    let target_is : target ≡ slice_index start.targets.items j = get_or_read start.targets.items j target (omega (arith, c.requires.j, c.requires.targets)) c.index-target.ensures 0 in
    record {
      bound = omega (arith, c.loop-k.invariant.bound);
      followed = follow_step mode t j c.args.end c.requires.end start.marks.items start.list.items c.loop-k.k old.marks.items old.list.items c.loop-k.invariant.followed k edge new.marks.items new.list.items (omega (arith, c.loop-k-test.true)) at c.if-edges-k.true c.in_ok-need.ensures.marks c.in_ok-need.ensures.list;
      targets = targets_long (set_of old.marks.items x) e x target old.targets.items new.targets.items c.in_ok-need.ensures.targets ∙ c.loop-k.invariant.targets;
      explained = λ crash ex.
          let was = subst (λ a. (event_is is_access t a ≡ true) × (set_of start.marks.items a ≡ true) × IsTarget mode t j a) (sym target_is) (ex.target j c.requires.marked) in
          let now = c.loop-k.invariant.explained crash ex in
          let on = c.loop-k.invariant.followed.grows.marks_grow target was.1 in
          explained_more mode t crash old.marks.items old.targets.items old.lines.items x c.loop-k.invariant.followed.listed.long within now e target (Order target) there new.marks.items new.targets.items new.lines.items c.in_ok-need.ensures.marks c.in_ok-need.ensures.targets c.in_ok-need.ensures.lines
          (λ is. (now.named target was.0 on, edge_direct mode t crash x j target leads was.0 was.2 is))
          (λ none. (was.0, on, edge_target mode t crash x j target leads was.0 was.2 none));
    }

pub returns-else-edges-k-clause-followed : goal.returns-else-edges-k-clause-followed
returns-else-edges-k-clause-followed c =
    let mode = c.args.graph.now.mode in
    let t = c.args.graph.now.events in
    let e : Edge = slice_index_or c.edges-edges.result.now (c.loop-k.k - 1) (record { before = 0; after = 0 }) in
    let at = edge_at mode t c.edges-edges.result.now c.edges-edges.ensures.edges (c.loop-k.k - 1) (record { before = 0; after = 0 }) (omega (arith, c.loop-k.invariant.bound, c.loop-k-test.true)) in
    follow_end mode t c.args.j c.args.end c.requires.end c.args.work.now.marks.items c.args.work.now.list.items c.loop-k.k c.loop-k.work.marks.items c.loop-k.work.list.items c.loop-k.invariant.followed (inr (c.loop-k.k - 1, e, omega (arith, c.loop-k-test.true), at, c.if-edges-k.false))

pub returns-after-loop-k-clause-followed : goal.returns-after-loop-k-clause-followed
returns-after-loop-k-clause-followed c =
    let mode = c.args.graph.now.mode in
    let t = c.args.graph.now.events in
    follow_end mode t c.args.j c.args.end c.requires.end c.args.work.now.marks.items c.args.work.now.list.items c.loop-k.k c.loop-k.work.marks.items c.loop-k.work.list.items c.loop-k.invariant.followed (inl (omega (arith, c.loop-k-test.false)))
