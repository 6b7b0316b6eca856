use Rattle.std.proofs.Common.{◌≡◌, ◌<◌, ◌∙◌, ℕ, List, [], suc, Some, length, true, ap, sym, arith, subst}
use Rattle.std.specs.Prelude.{slice_get, slice_index_or}
use Rattle.std.proofs.lemmas.Option.{slice_get-get_or}
use Rattle.strand_events.specs.declared.event.Event.{Event}
use Rattle.strand_events.specs.declared.event.Event.TheVariants.{Load}
use Rattle.strand_events.specs.Trace.{is_persist, is_access, event_is}
use Rattle.strand_events.proofs.PersistOrder.Epochs.{weaker, persist_access}
use Rattle.strand_judge.specs.Words.{crash_of}
use Rattle.strand_judge.specs.Gathered.{IsMarkedMore}
use Rattle.strand_judge.specs.Worklist.{IsListed}
use Rattle.strand_judge.proofs.Least.Work.{brought}
use Rattle.strand_judge.proofs.Least.Offers.{asked_by, asked_within}
use Rattle.strand_refute.specs.declared.certificate.Reason.TheVariants.{Match}
use Rattle.strand_refute.specs.Accepted.{needed_by, Holds}
use Rattle.strand_refute.specs.Work.{IsExplained}
use Rattle.strand_refute.proofs.Checks.Matches.{asks_made}
use Rattle.strand_refute.proofs.gathering.serve.Goals as goal

-- the event that was read
read : (t events : List Event) (n : ℕ) → events ≡ t → n < length t → slice_get t n ≡ Some (slice_index_or events n (Load 0 0))
read t events n same lt = slice_get-get_or t n (Load 0 0) lt ∙ ap (λ xs. Some (slice_index_or xs n (Load 0 0))) (sym same)

pub asked-next-requires-clause-nexts : goal.asked-next-requires-clause-nexts
asked-next-requires-clause-nexts c = omega (arith, c.requires.j, (c.requires.offered []).long_nexts)

pub need_since-requires-clause-within : goal.need_since-requires-clause-within
need_since-requires-clause-within c =
    let t = c.args.graph.now.events in
    let at = read t c.events-events.result.now c.args.j c.events-events.ensures.events c.requires.j in
    let a = asked_by t [] c.args.found.now c.requires.within c.args.offered.now.firsts.items c.args.offered.now.nexts.items (c.requires.offered []) c.args.j (slice_index_or c.events-events.result.now c.args.j (Load 0 0)) at c.asked-next.result c.asked-next.ensures in
    omega (arith, asked_within t (crash_of [] c.args.found.now) c.args.j c.asked-next.result a, ap length c.events-events.ensures.events)

pub returns-clause-brought : goal.returns-clause-brought
returns-clause-brought c = λ first.
    let t = c.args.graph.now.events in
    let at = read t c.events-events.result.now c.args.j c.events-events.ensures.events c.requires.j in
    let a = asked_by t first c.args.found.now c.requires.within c.args.offered.now.firsts.items c.args.offered.now.nexts.items (c.requires.offered first) c.args.j (slice_index_or c.events-events.result.now c.args.j (Load 0 0)) at c.asked-next.result c.asked-next.ensures in
    let start = c.args.work.now in
    let mid = c.follow.new.work in
    let new = c.need_since.new.work in
    let followed = c.in_ok-follow.ensures.followed in
    let more = subst (λ ev. IsListed (length ev) mid.marks.items mid.list.items → IsMarkedMore (length ev) c.asked-next.result mid.marks.items mid.list.items new.marks.items new.list.items) c.events-events.ensures.events c.in_ok-need_since.ensures.more in
    brought c.args.graph.now.mode t (crash_of first c.args.found.now) c.args.j c.asked-next.result start.marks.items start.list.items mid.marks.items mid.list.items new.marks.items new.list.items followed a (more followed.listed)

pub returns-clause-explained : goal.returns-clause-explained
returns-clause-explained c = λ first ex.
    let mode = c.args.graph.now.mode in
    let t = c.args.graph.now.events in
    let j = c.args.j in
    let crash = crash_of first c.args.found.now in
    let at = read t c.events-events.result.now j c.events-events.ensures.events c.requires.j in
    let a = asked_by t first c.args.found.now c.requires.within c.args.offered.now.firsts.items c.args.offered.now.nexts.items (c.requires.offered first) j (slice_index_or c.events-events.result.now j (Load 0 0)) at c.asked-next.result c.asked-next.ensures in
    let mid = c.follow.new.work in
    let new = c.need_since.new.work in
    let now = c.in_ok-follow.ensures.explained crash ex in
    let on = c.in_ok-follow.ensures.followed.grows.marks_grow j c.requires.marked in
    let law = subst (λ ev. ((q : ℕ) → c.asked-next.result ≡ suc q → (event_is is_access ev q ≡ true) × Holds mode ev crash (needed_by mid.lines.items (length mid.lines.items)) q (Match (Some j)))
    → IsExplained mode ev crash mid.marks.items mid.targets.items mid.lines.items → IsExplained mode ev crash new.marks.items new.targets.items new.lines.items) c.events-events.ensures.events (c.in_ok-need_since.ensures.explained mode crash) in
    law (λ q is.
    let asks = a.sound q is in
    (weaker is_persist is_access persist_access t q asks.next.1.persist, asks_made t crash (needed_by mid.lines.items (length mid.lines.items)) q j (now.named j (weaker is_persist is_access persist_access t j asks.persist) on) asks)) now
