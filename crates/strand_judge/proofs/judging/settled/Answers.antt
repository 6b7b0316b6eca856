use Rattle.std.proofs.Common.{◌≡◌, ◌<◌, length, arith, subst}
use Rattle.std.specs.Prelude.{slice_index}
use Rattle.std.proofs.lemmas.List.{get_or_read}
use Rattle.strand_judge.specs.Words.{crash_of}
use Rattle.strand_judge.proofs.Least.Marks.{mark_within}
use Rattle.strand_judge.specs.Offered.{AreOffered}
use Rattle.strand_judge.specs.Gathered.{IsBrought, AreJoined, AreForced}
use Rattle.strand_judge.proofs.Least.Seeds.{seeded}
use Rattle.strand_judge.proofs.Least.Work.{work_first, work_step, work_smaller, work_end}
use Rattle.strand_judge.proofs.judging.settled.Goals as goal

pub mark_forced-requires-clause-offered : goal.mark_forced-requires-clause-offered
mark_forced-requires-clause-offered c = c.in_ok-offered.ensures c.args.first.now

pub loop-done-init : goal.loop-done-init
loop-done-init c =
    let t = c.args.graph.now.events in
    let firsts = c.in_ok-offered.offered.firsts.items in
    let offered = subst (λ ev. AreOffered ev (crash_of c.args.first.now c.args.found.now) (length c.args.found.now) 0 firsts c.in_ok-offered.offered.nexts.items) c.events-events.ensures.events (c.in_ok-offered.ensures c.args.first.now) in
    let joined = subst (λ ev. AreJoined ev (length c.args.joined.now) c.args.persists.now c.args.joined.now c.mark_joined.new.marks.items c.mark_joined.new.list.items) c.events-events.ensures.events c.in_ok-mark_joined.ensures in
    let forced = subst (λ ev. AreForced ev c.args.first.now c.args.found.now firsts (length c.args.found.now) c.mark_joined.new.marks.items c.mark_joined.new.list.items c.mark_forced.new.marks.items c.mark_forced.new.list.items) c.events-events.ensures.events c.in_ok-mark_forced.ensures in
    work_first c.args.graph.now.mode t (crash_of c.args.first.now c.args.found.now) c.mark_forced.new.marks.items c.mark_forced.new.list.items
    (seeded t c.args.first.now c.args.found.now firsts c.in_ok-offered.offered.nexts.items offered c.mark_joined.new.marks.items c.mark_joined.new.list.items c.args.persists.now c.args.joined.now c.requires.persists c.requires.joined joined c.mark_forced.new.marks.items c.mark_forced.new.list.items forced)

pub serve-requires-clause-offered : goal.serve-requires-clause-offered
serve-requires-clause-offered c = λ first. subst (λ t. AreOffered t (crash_of first c.args.found.now) (length c.args.found.now) 0 c.in_ok-offered.offered.firsts.items c.in_ok-offered.offered.nexts.items) c.events-events.ensures.events (c.in_ok-offered.ensures first)

pub serve-requires-clause-j : goal.serve-requires-clause-j
serve-requires-clause-j c =
    let lt : c.loop-done.done < length c.loop-done.list.items = omega (arith, c.loop-done-test.true, c.len.ensures, c.loop-done.list.ok.0) in
    let here : c.index.result.now ≡ slice_index c.loop-done.list.items c.loop-done.done = get_or_read c.loop-done.list.items c.loop-done.done c.index.result.now lt c.index.ensures 0 in
    omega (arith, here, mark_within c.loop-done.marks.items (slice_index c.loop-done.list.items c.loop-done.done) (c.loop-done.invariant.listed.marked c.loop-done.done lt), c.loop-done.invariant.listed.long)

pub loop-done-smaller : goal.loop-done-smaller
loop-done-smaller c =
    let lt : c.loop-done.done < length c.loop-done.list.items = omega (arith, c.loop-done-test.true, c.len.ensures, c.loop-done.list.ok.0) in
    let here : c.index.result.now ≡ slice_index c.loop-done.list.items c.loop-done.done = get_or_read c.loop-done.list.items c.loop-done.done c.index.result.now lt c.index.ensures 0 in
    let b = subst (λ j. IsBrought c.args.graph.now.mode c.args.graph.now.events (crash_of c.args.first.now c.args.found.now) j c.loop-done.marks.items c.loop-done.list.items c.serve.new.marks.items c.serve.new.list.items) here (c.in_ok-serve.ensures c.args.first.now) in
    work_smaller c.args.graph.now.mode c.args.graph.now.events (crash_of c.args.first.now c.args.found.now) c.loop-done.done c.loop-done.marks.items c.loop-done.list.items c.serve.new.marks.items c.serve.new.list.items lt b

pub loop-done-preserved : goal.loop-done-preserved
loop-done-preserved c =
    let lt : c.loop-done.done < length c.loop-done.list.items = omega (arith, c.loop-done-test.true, c.len.ensures, c.loop-done.list.ok.0) in
    let here : c.index.result.now ≡ slice_index c.loop-done.list.items c.loop-done.done = get_or_read c.loop-done.list.items c.loop-done.done c.index.result.now lt c.index.ensures 0 in
    let b = subst (λ j. IsBrought c.args.graph.now.mode c.args.graph.now.events (crash_of c.args.first.now c.args.found.now) j c.loop-done.marks.items c.loop-done.list.items c.serve.new.marks.items c.serve.new.list.items) here (c.in_ok-serve.ensures c.args.first.now) in
    work_step c.args.graph.now.mode c.args.graph.now.events (crash_of c.args.first.now c.args.found.now) c.loop-done.done c.loop-done.marks.items c.loop-done.list.items c.serve.new.marks.items c.serve.new.list.items lt c.loop-done.invariant b

pub returns-clause-least : goal.returns-clause-least
returns-clause-least c = work_end c.args.graph.now.mode c.args.graph.now.events (crash_of c.args.first.now c.args.found.now) c.loop-done.done c.loop-done.marks.items c.loop-done.list.items (omega (arith, c.loop-done-test.false, c.len.ensures, c.loop-done.list.ok.0)) c.loop-done.invariant
