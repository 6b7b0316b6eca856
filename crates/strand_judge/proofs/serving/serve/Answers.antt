use Rattle.std.proofs.Common.{◌≡◌, ◌<◌, ℕ, List, [], Some, length, sym, ap, ◌∙◌, arith}
use Rattle.std.specs.Prelude.{slice_get, slice_index_or}
use Rattle.std.proofs.lemmas.Option.{slice_get-get_or}
use Rattle.strand_events.specs.declared.event.Event.{Event}
use Rattle.strand_events.specs.declared.event.Event.TheVariants.{Load}
use Rattle.strand_judge.specs.Words.{crash_of}
use Rattle.strand_judge.proofs.Least.Work.{brought}
use Rattle.strand_judge.proofs.Least.Offers.{asked_by, asked_within}
use Rattle.strand_judge.proofs.serving.serve.Goals as goal

-- the event that was read
read : (t events : List Event) (n : ℕ) → events ≡ t → n < length t → slice_get t n ≡ Some (slice_index_or events n (Load 0 0))
read t events n same lt = slice_get-get_or t n (Load 0 0) lt ∙ ap (λ xs. Some (slice_index_or xs n (Load 0 0))) (sym same)

pub asked-next-requires-clause-nexts : goal.asked-next-requires-clause-nexts
asked-next-requires-clause-nexts c = omega (arith, c.requires.j, (c.requires.offered []).long_nexts)

pub mark_since-requires : goal.mark_since-requires
mark_since-requires c =
    let t = c.args.graph.now.events in
    let at = read t c.events.result.now c.args.j c.events.ensures.events c.requires.j in
    let a = asked_by t [] c.args.found.now c.requires.within c.args.offered.now.firsts.items c.args.offered.now.nexts.items (c.requires.offered []) c.args.j (slice_index_or c.events.result.now c.args.j (Load 0 0)) at c.asked-next.result c.asked-next.ensures in
    record { within = omega (arith, asked_within t (crash_of [] c.args.found.now) c.args.j c.asked-next.result a, c.in_ok-follow.ensures.listed.long) }

pub returns : goal.returns
returns c = λ first.
    let t = c.args.graph.now.events in
    let at = read t c.events.result.now c.args.j c.events.ensures.events c.requires.j in
    let a = asked_by t first c.args.found.now c.requires.within c.args.offered.now.firsts.items c.args.offered.now.nexts.items (c.requires.offered first) c.args.j (slice_index_or c.events.result.now c.args.j (Load 0 0)) at c.asked-next.result c.asked-next.ensures in
    brought c.args.graph.now.mode t (crash_of first c.args.found.now) c.args.j c.asked-next.result c.args.marks.now.items c.args.list.now.items c.follow.new.marks.items c.follow.new.list.items c.mark_since.new.marks.items c.mark_since.new.list.items c.in_ok-follow.ensures a (c.in_ok-mark_since.ensures (length t) c.in_ok-follow.ensures.listed)
