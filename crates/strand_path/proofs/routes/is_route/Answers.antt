use Rattle.std.proofs.Common.{◌≡◌, ◌-◌, suc, true, refl, sym, ap, ◌∙◌, arith, subst}
use Rattle.std.specs.Prelude.{slice_get, slice_index}
use Rattle.strand_order.specs.Graph.{is_edge}
use Rattle.strand_order.specs.Edges.{edges_of}
use Rattle.strand_path.specs.Seeking.{joins, IsSought}
use Rattle.strand_path.proofs.Check.Route.{joins_found, joins_all, joined_first, joined_more}
use Rattle.strand_path.proofs.routes.is_route.Goals as goal

pub loop-k-init : goal.loop-k-init
loop-k-init c = joined_first c.args.graph.now.mode c.args.graph.now.events c.args.route.now

pub returns-then-not-joins-clause-no : goal.returns-then-not-joins-clause-no
returns-then-not-joins-clause-no c = λ r.
    let mode = c.args.graph.now.mode in
    let t = c.args.graph.now.events in
    let route = c.args.route.now in
    let k = c.loop-k.k in
    let i = slice_index route (k - 1) in
    let j = slice_index route k in
    let sought = subst (λ es. IsSought es i j c.loop-k.place c.seek-place.result) c.edges-edges.ensures.edges c.seek-place.ensures in
    let one : suc (k - 1) ≡ k = omega (arith, c.loop-k.auto.k) in
    let edge : is_edge mode t i j ≡ true = ap (λ x. is_edge mode t i (slice_index route x)) (sym one) ∙ r.joined (k - 1) (omega (arith, one, c.loop-k-test.true)) in
    sym c.if-not-joins.true ∙ c.joins.ensures ∙ ap (λ es. joins i j (slice_get es c.seek-place.result)) c.edges-edges.ensures.edges ∙ joins_all mode t route k c.loop-k.place c.seek-place.result c.loop-k.invariant i j refl sought edge

pub loop-k-preserved : goal.loop-k-preserved
loop-k-preserved c =
    let mode = c.args.graph.now.mode in
    let t = c.args.graph.now.events in
    let route = c.args.route.now in
    let k = c.loop-k.k in
    let i = slice_index route (k - 1) in
    let j = slice_index route k in
    let sought = subst (λ es. IsSought es i j c.loop-k.place c.seek-place.result) c.edges-edges.ensures.edges c.seek-place.ensures in
    let here : joins i j (slice_get (edges_of mode t) c.seek-place.result) ≡ true = ap (λ es. joins i j (slice_get es c.seek-place.result)) (sym c.edges-edges.ensures.edges) ∙ sym c.joins.ensures ∙ c.if-not-joins.false in
    joined_more mode t route k c.loop-k.place c.seek-place.result c.loop-k.invariant i j refl refl (omega (arith, c.loop-k.auto.k)) sought (joins_found mode t c.seek-place.result i j here)
