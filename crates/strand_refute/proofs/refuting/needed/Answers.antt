use Rattle.std.proofs.Common.{◌≡◌, ◌<◌, ◌∙◌, length, ap, arith, subst}
use Rattle.std.specs.Prelude.{slice_index}
use Rattle.std.proofs.lemmas.List.{get_or_read, length-replicate}
use Rattle.strand_events.specs.Order.{set_of}
use Rattle.strand_events.specs.Trace.{persists_of}
use Rattle.strand_judge.specs.Words.{crash_of}
use Rattle.strand_judge.specs.Gathered.{IsBrought, AreJoined, AreForced}
use Rattle.strand_judge.specs.Offered.{AreOffered}
use Rattle.strand_judge.proofs.Least.Marks.{mark_within}
use Rattle.strand_judge.proofs.Least.Seeds.{seeded}
use Rattle.strand_judge.proofs.Least.Work.{work_first, work_step, work_smaller, work_end}
use Rattle.strand_refute.specs.Work.{IsExplained}
use Rattle.strand_refute.proofs.Refutes.Explained.{explained_none}
use Rattle.strand_refute.proofs.refuting.needed.Goals as goal

pub need_forced-requires-clause-offered : goal.need_forced-requires-clause-offered
need_forced-requires-clause-offered c = c.in_ok-offered.ensures c.args.first.now

pub loop-done-init : goal.loop-done-init
loop-done-init c =
    let mode = c.args.graph.now.mode in
    let t = c.args.graph.now.events in
    let first = c.args.first.now in
    let found = c.args.found.now in
    let crash = crash_of first found in
    let firsts = c.in_ok-offered.offered.firsts.items in
    let nexts = c.in_ok-offered.offered.nexts.items in
    let persists = c.deref.result.now in
    let joined = c.as_slice.result.now in
    let same = c.events-events.ensures.events in
    let none = c.in_ok-work.work in
    let one = c.need_joined.new.work in
    let two = c.need_forced.new.work in
    let offered = subst (λ ev. AreOffered ev crash (length found) 0 firsts nexts) same (c.in_ok-offered.ensures first) in
    let are_joined = subst (λ ev. AreJoined ev (length joined) persists joined one.marks.items one.list.items) same c.in_ok-need_joined.ensures.joined in
    let forced = subst (λ ev. AreForced ev first found firsts (length found) one.marks.items one.list.items two.marks.items two.list.items) same c.in_ok-need_forced.ensures.forced in
    let persists_is : persists ≡ persists_of t = c.deref.ensures.value ∙ c.in_ok-persists.ensures ∙ ap persists_of same in
    let start : IsExplained mode c.events-events.result.now crash none.marks.items none.targets.items none.lines.items = explained_none mode c.events-events.result.now crash _ none.marks.items none.targets.items none.lines.items c.in_ok-work.ensures.marks (ap length c.in_ok-work.ensures.targets ∙ length-replicate _ 0) c.in_ok-work.ensures.lines in
    record {
      worked = work_first mode t crash two.marks.items two.list.items
          (seeded t first found firsts nexts offered one.marks.items one.list.items persists joined persists_is (c.as_slice.ensures ∙ c.requires.joined) are_joined two.marks.items two.list.items forced);
      targets = c.in_ok-need_forced.ensures.targets ∙ ap length same;
      explained = subst (λ ev. IsExplained mode ev crash two.marks.items two.targets.items two.lines.items) same (c.in_ok-need_forced.ensures.explained mode (c.in_ok-need_joined.ensures.explained mode crash start));
    }

pub serve-requires-clause-offered : goal.serve-requires-clause-offered
serve-requires-clause-offered c = λ first. subst (λ t. AreOffered t (crash_of first c.args.found.now) (length c.args.found.now) 0 c.in_ok-offered.offered.firsts.items c.in_ok-offered.offered.nexts.items) c.events-events.ensures.events (c.in_ok-offered.ensures first)

pub serve-requires-clause-j : goal.serve-requires-clause-j
serve-requires-clause-j c =
    let list = c.loop-done.work.list.items in
    let lt : c.loop-done.done < length list = omega (arith, c.loop-done-test.true, c.len.ensures, c.loop-done.work.list.ok.0) in
    let here : c.index-j.result.now ≡ slice_index list c.loop-done.done = get_or_read list c.loop-done.done c.index-j.result.now lt c.index-j.ensures 0 in
    omega (arith, here, mark_within c.loop-done.work.marks.items (slice_index list c.loop-done.done) (c.loop-done.invariant.worked.listed.marked c.loop-done.done lt), c.loop-done.invariant.worked.listed.long)

pub serve-requires-clause-marked : goal.serve-requires-clause-marked
serve-requires-clause-marked c =
    let list = c.loop-done.work.list.items in
    let lt : c.loop-done.done < length list = omega (arith, c.loop-done-test.true, c.len.ensures, c.loop-done.work.list.ok.0) in
    let here : c.index-j.result.now ≡ slice_index list c.loop-done.done = get_or_read list c.loop-done.done c.index-j.result.now lt c.index-j.ensures 0 in
    ap (set_of c.loop-done.work.marks.items) here ∙ c.loop-done.invariant.worked.listed.marked c.loop-done.done lt

pub loop-done-smaller : goal.loop-done-smaller
loop-done-smaller c =
    let list = c.loop-done.work.list.items in
    let lt : c.loop-done.done < length list = omega (arith, c.loop-done-test.true, c.len.ensures, c.loop-done.work.list.ok.0) in
    let here : c.index-j.result.now ≡ slice_index list c.loop-done.done = get_or_read list c.loop-done.done c.index-j.result.now lt c.index-j.ensures 0 in
    let b = subst (λ j. IsBrought c.args.graph.now.mode c.args.graph.now.events (crash_of c.args.first.now c.args.found.now) j c.loop-done.work.marks.items list c.serve.new.work.marks.items c.serve.new.work.list.items) here (c.in_ok-serve.ensures.brought c.args.first.now) in
    work_smaller c.args.graph.now.mode c.args.graph.now.events (crash_of c.args.first.now c.args.found.now) c.loop-done.done c.loop-done.work.marks.items list c.serve.new.work.marks.items c.serve.new.work.list.items lt b

pub loop-done-preserved : goal.loop-done-preserved
loop-done-preserved c =
    let list = c.loop-done.work.list.items in
    let lt : c.loop-done.done < length list = omega (arith, c.loop-done-test.true, c.len.ensures, c.loop-done.work.list.ok.0) in
    let here : c.index-j.result.now ≡ slice_index list c.loop-done.done = get_or_read list c.loop-done.done c.index-j.result.now lt c.index-j.ensures 0 in
    let b = subst (λ j. IsBrought c.args.graph.now.mode c.args.graph.now.events (crash_of c.args.first.now c.args.found.now) j c.loop-done.work.marks.items list c.serve.new.work.marks.items c.serve.new.work.list.items) here (c.in_ok-serve.ensures.brought c.args.first.now) in
    record {
      worked = work_step c.args.graph.now.mode c.args.graph.now.events (crash_of c.args.first.now c.args.found.now) c.loop-done.done c.loop-done.work.marks.items list c.serve.new.work.marks.items c.serve.new.work.list.items lt c.loop-done.invariant.worked b;
      targets = c.in_ok-serve.ensures.targets;
      explained = c.in_ok-serve.ensures.explained c.args.first.now c.loop-done.invariant.explained;
    }

pub returns-clause-least : goal.returns-clause-least
returns-clause-least c = work_end c.args.graph.now.mode c.args.graph.now.events (crash_of c.args.first.now c.args.found.now) c.loop-done.done c.loop-done.work.marks.items c.loop-done.work.list.items (omega (arith, c.loop-done-test.false, c.len.ensures, c.loop-done.work.list.ok.0)) c.loop-done.invariant.worked
