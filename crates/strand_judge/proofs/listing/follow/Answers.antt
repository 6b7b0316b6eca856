use Rattle.std.proofs.Common.{◌-◌, inl, inr, length, ap, arith}
use Rattle.std.specs.Prelude.{slice_index_or}
use Rattle.strand_order.specs.declared.edge.Edge.{Edge}
use Rattle.strand_order.specs.Edges.{edges_of}
use Rattle.strand_order.proofs.Edges.List.{edge_at, ends_within}
use Rattle.strand_order.proofs.Edges.LastEvent.{since_most}
use Rattle.strand_judge.specs.Ends.{leads_at}
use Rattle.strand_judge.proofs.Least.Edges.{follow_first, follow_step, follow_end}
use Rattle.strand_judge.proofs.listing.follow.Goals as goal

pub loop-k-init : goal.loop-k-init
loop-k-init c =
    let mode = c.args.graph.now.mode in
    let t = c.args.graph.now.events in
    record {
      bound = omega (arith, c.requires.end, since_most (length (edges_of mode t)) (leads_at mode t c.args.j), ap length c.edges-edges.ensures.edges);
      followed = follow_first mode t c.args.j c.args.end c.requires.end c.args.marks.now.items c.args.list.now.items c.requires.listed;
    }

pub mark-requires : goal.mark-requires
mark-requires c =
    let mode = c.args.graph.now.mode in
    let t = c.args.graph.now.events in
    let at = edge_at mode t c.edges-edges.result.now c.edges-edges.ensures.edges (c.loop-k.k - 1) (record { before = 0; after = 0 }) (omega (arith, c.loop-k.invariant.bound, c.loop-k-test.true)) in
    omega (arith, (ends_within mode t (c.loop-k.k - 1) _ at).0, (c.loop-k.invariant.followed.listed).long)

pub loop-k-preserved : goal.loop-k-preserved
loop-k-preserved c =
    let mode = c.args.graph.now.mode in
    let t = c.args.graph.now.events in
    let e : Edge = slice_index_or c.edges-edges.result.now (c.loop-k.k - 1) (record { before = 0; after = 0 }) in
    let at = edge_at mode t c.edges-edges.result.now c.edges-edges.ensures.edges (c.loop-k.k - 1) (record { before = 0; after = 0 }) (omega (arith, c.loop-k.invariant.bound, c.loop-k-test.true)) in
    record {
      bound = omega (arith, c.loop-k.invariant.bound);
      followed = follow_step mode t c.args.j c.args.end c.requires.end c.args.marks.now.items c.args.list.now.items c.loop-k.k c.loop-k.marks.items c.loop-k.list.items c.loop-k.invariant.followed (c.loop-k.k - 1) e c.mark.new.marks.items c.mark.new.list.items (omega (arith, c.loop-k-test.true)) at c.if-edges-k.true c.in_ok-mark.ensures.marks c.in_ok-mark.ensures.list;
    }

pub returns-else-edges-k : goal.returns-else-edges-k
returns-else-edges-k c =
    let mode = c.args.graph.now.mode in
    let t = c.args.graph.now.events in
    let e : Edge = slice_index_or c.edges-edges.result.now (c.loop-k.k - 1) (record { before = 0; after = 0 }) in
    let at = edge_at mode t c.edges-edges.result.now c.edges-edges.ensures.edges (c.loop-k.k - 1) (record { before = 0; after = 0 }) (omega (arith, c.loop-k.invariant.bound, c.loop-k-test.true)) in
    follow_end mode t c.args.j c.args.end c.requires.end c.args.marks.now.items c.args.list.now.items c.loop-k.k c.loop-k.marks.items c.loop-k.list.items c.loop-k.invariant.followed (inr (c.loop-k.k - 1, e, omega (arith, c.loop-k-test.true), at, c.if-edges-k.false))

pub returns-after-loop-k : goal.returns-after-loop-k
returns-after-loop-k c =
    let mode = c.args.graph.now.mode in
    let t = c.args.graph.now.events in
    follow_end mode t c.args.j c.args.end c.requires.end c.args.marks.now.items c.args.list.now.items c.loop-k.k c.loop-k.marks.items c.loop-k.list.items c.loop-k.invariant.followed (inl (omega (arith, c.loop-k-test.false)))
