use Rattle.std.proofs.Common.{◌+◌, refl, arith}
use Rattle.std.specs.Prelude.{slice_index_or, slice_set}
use Rattle.strand_order.specs.declared.edge.Edge.{Edge}
use Rattle.strand_order.proofs.Edges.List.{edge_at, ends_within}
use Rattle.strand_judge.proofs.Least.Edges.{ends_more}
use Rattle.strand_judge.proofs.listing.ends_of.Goals as goal

pub index_mut-requires : goal.index_mut-requires
index_mut-requires c =
    let mode = c.args.graph.now.mode in
    let t = c.args.graph.now.events in
    let at = edge_at mode t c.edges-edges.result.now c.edges-edges.ensures.edges c.loop-k.k (record { before = 0; after = 0 }) (omega (arith, c.loop-k-test.true)) in
    omega (arith, (ends_within mode t c.loop-k.k _ at).1, c.loop-k.invariant.long, c.loop-k.ends.ok.0)

pub loop-k-preserved : goal.loop-k-preserved
loop-k-preserved c =
    let mode = c.args.graph.now.mode in
    let t = c.args.graph.now.events in
    let e : Edge = slice_index_or c.edges-edges.result.now c.loop-k.k (record { before = 0; after = 0 }) in
    let at = edge_at mode t c.edges-edges.result.now c.edges-edges.ensures.edges c.loop-k.k (record { before = 0; after = 0 }) (omega (arith, c.loop-k-test.true)) in
    ends_more mode t c.loop-k.k e c.loop-k.ends.items (slice_set c.loop-k.ends.items e.after (c.loop-k.k + 1)) at refl c.loop-k.invariant
