use Rattle.std.proofs.Common.{◌≡◌, ◌-◌, ◌<◌, ◌∙◌, suc, length, subst, sym, ap, arith}
use Rattle.std.specs.Prelude.{slice_index}
use Rattle.std.proofs.lemmas.List.{length-set, get_or_read}
use Rattle.strand_events.specs.Trace.{is_persist}
use Rattle.strand_events.proofs.EventWithin.{event_within}
use Rattle.strand_path.specs.Picking.{is_of_level, IsSome, IsPick, ArePicked}
use Rattle.strand_path.proofs.LongestPath.Members.{greatest_some, picked_more}
use Rattle.strand_path.proofs.picking.members.Goals as goal

pub first_of-requires-clause-some_ : goal.first_of-requires-clause-some_
first_of-requires-clause-some_ c =
    let t = c.args.graph.now.events in
    let here = greatest_some t c.args.traces.now.levels.items (length t) (omega (arith, c.requires.top, c.if-top-eq0.false)) in
    subst (λ xs. IsSome (length c.events.result.now) (is_of_level c.events.result.now xs c.args.top)) (sym c.deref.ensures.value)
    (subst (λ ev. IsSome (length ev) (is_of_level ev c.args.traces.now.levels.items c.args.top)) (sym c.events.ensures.events)
    (subst (λ v. IsSome (length t) (is_of_level t c.args.traces.now.levels.items v)) (sym c.requires.top) here))

pub loop-n-preserved : goal.loop-n-preserved
loop-n-preserved c =
    let mode = c.args.graph.now.mode in
    let t = c.args.graph.now.events in
    let levels = c.args.traces.now.levels.items in
    let chain = c.loop-n.chain.items in
    let n = c.loop-n.n in
    let firsts = c.args.traces.now.firsts.items in
    let member = c.index-member.result.now in
    let one : n ≡ suc (n - 1) = omega (arith, c.loop-n-test.true) in
    let read : c.index.result.now ≡ slice_index chain n = get_or_read chain n c.index.result.now c.loop-n.invariant.within c.index.ensures 0 in
    let q = slice_index chain n in
    let is = c.loop-n.invariant.picked.persist n (omega arith) c.loop-n.invariant.within in
    let inside : c.index.result.now < length firsts = omega (arith, read, c.requires.traces.firsts.long, event_within is_persist t q is) in
    let first : member ≡ slice_index firsts q = get_or_read firsts c.index.result.now member inside c.index-member.ensures 0 ∙ ap (slice_index firsts) read in
    let pick : IsPick mode t levels q n (slice_index firsts q) = c.requires.traces.firsts.pick q n is (c.loop-n.invariant.picked.level n (omega arith) c.loop-n.invariant.within) (omega (arith, c.loop-n-test.true)) in
    let same : IsPick mode t levels q n member = subst (IsPick mode t levels q n) (sym first) pick in
    let here : IsPick mode t levels (slice_index chain (suc (n - 1))) (suc (n - 1)) member = subst (λ k. IsPick mode t levels (slice_index chain k) k member) one same in
    let was : ArePicked mode t levels chain (suc (n - 1)) = subst (λ k. ArePicked mode t levels chain k) one c.loop-n.invariant.picked in
    record {
      within = omega (arith, c.loop-n.invariant.within, length-set chain (n - 1) member);
      picked = picked_more mode t levels chain (n - 1) member (omega (arith, c.loop-n.invariant.within, one)) here was;
    }
