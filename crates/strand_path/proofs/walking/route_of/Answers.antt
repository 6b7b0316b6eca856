use Rattle.std.proofs.Common.{◌≡◌, ◌-◌, ◌<◌, ◌≤◌, ◌∙◌, inl, inr, suc, length, sym, ap, subst, arith}
use Rattle.std.specs.Prelude.{slice_index, ◌==◌}
use Rattle.std.proofs.lemmas.Bool.{cases_lt, both_ways, eq-eqb}
use Rattle.strand_events.proofs.EventWithin.{event_within}
use Rattle.strand_path.proofs.LongestPath.Members.{members_rise, member_linked}
use Rattle.strand_path.proofs.LongestPath.Route.{route_more, route_whole}
use Rattle.strand_events.specs.Trace.{is_persist}
use Rattle.strand_path.proofs.walking.route_of.Goals as goal

pub loop-k-preserved : goal.loop-k-preserved
loop-k-preserved c =
    let mode = c.args.graph.now.mode in
    let t = c.args.graph.now.events in
    let levels = c.args.traces.now.levels.items in
    let members = c.args.members.now in
    let k = c.loop-k.k in
    let a = c.requires.picked in
    let here = a.level k (omega arith) (omega (arith, c.loop-k-test.true)) in
    let before = a.level (k - 1) (omega arith) (omega (arith, c.loop-k-test.true)) in
    let one : suc (k - 1) ≡ k = omega (arith, c.loop-k.auto.k) in
    route_more mode t levels members k c.loop-k.route c.walk.new.route c.requires.traces.levels (omega (arith, c.loop-k-test.true)) (a.persist k (omega arith) (omega (arith, c.loop-k-test.true))) (omega (arith, here, before, one)) c.loop-k.invariant (c.in_ok-walk.ensures mode t c.requires.traces.linked)

pub returns-clause-route : goal.returns-clause-route
returns-clause-route c =
    let t = c.args.graph.now.events in
    let some_ : 0 < length c.args.members.now = elim (cases_lt 0 (length c.args.members.now)) [
      | inl lt ↦ lt
      | inr none ↦ absurd (both_ways (length c.args.members.now == 0) (sym c.if-is_empty.ensures) (eq-eqb (length c.args.members.now) 0 (omega (arith, none))))
    ] in
    route_whole c.args.graph.now.mode t c.args.members.now c.loop-k.route c.loop-k.k (event_within is_persist t _ (c.requires.picked.persist 0 (omega arith) some_)) c.loop-k.invariant

pub walk-requires-clause-first : goal.walk-requires-clause-first
walk-requires-clause-first c =
    let v = c.args.traces.now in
    let members = c.args.members.now in
    let k = c.loop-k.k - 1 in
    let one : suc k ≡ c.loop-k.k = omega (arith, c.loop-k.auto.k) in
    let h = member_linked c.args.graph.now.mode c.args.graph.now.events v.levels.items v.firsts.items v.vias.items members c.requires.traces.firsts c.requires.traces.linked c.requires.picked k (omega (arith, one, c.loop-k-test.true)) in
    ap (λ n. slice_index v.firsts.items (slice_index members n)) (sym one) ∙ h.0

pub walk-requires-clause-via : goal.walk-requires-clause-via
walk-requires-clause-via c =
    let v = c.args.traces.now in
    let members = c.args.members.now in
    let k = c.loop-k.k - 1 in
    let one : suc k ≡ c.loop-k.k = omega (arith, c.loop-k.auto.k) in
    let h = member_linked c.args.graph.now.mode c.args.graph.now.events v.levels.items v.firsts.items v.vias.items members c.requires.traces.firsts c.requires.traces.linked c.requires.picked k (omega (arith, one, c.loop-k-test.true)) in
    subst (λ n. 1 ≤ slice_index v.vias.items (slice_index members n)) one h.1

pub walk-requires-clause-less : goal.walk-requires-clause-less
walk-requires-clause-less c =
    let members = c.args.members.now in
    let k = c.loop-k.k - 1 in
    let one : suc k ≡ c.loop-k.k = omega (arith, c.loop-k.auto.k) in
    subst (λ n. slice_index members k < slice_index members n) one (members_rise c.args.graph.now.mode c.args.graph.now.events c.args.traces.now.levels.items members c.requires.picked k (omega (arith, one, c.loop-k-test.true)))

pub walk-requires-clause-linked : goal.walk-requires-clause-linked
walk-requires-clause-linked c = (c.args.graph.now.mode, c.args.graph.now.events, c.requires.traces.linked)
