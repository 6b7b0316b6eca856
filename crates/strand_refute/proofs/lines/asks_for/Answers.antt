use Rattle.std.proofs.Common.{[], arith}
use Rattle.std.specs.Prelude.{slice_index_or}
use Rattle.std.proofs.lemmas.Option.{slice_get-get_or}
use Rattle.strand_events.specs.declared.event.Event.TheVariants.{Load}
use Rattle.strand_judge.specs.Words.{crash_of}
use Rattle.strand_judge.proofs.Least.Offers.{asked_by}
use Rattle.strand_refute.proofs.Checks.Tests.{asks_is}
use Rattle.strand_refute.proofs.lines.asks_for.Goals as goal

pub asked-requires-clause-nexts : goal.asked-requires-clause-nexts
asked-requires-clause-nexts c = omega (arith, c.requires.p, (c.requires.offered []).long_nexts)

pub returns : goal.returns
returns c = λ first.
    let t = c.args.events.now in
    asks_is t (crash_of first c.args.found.now) c.args.p c.args.q c.asked.result
    (asked_by t first c.args.found.now c.requires.within c.args.offered.now.firsts.items c.args.offered.now.nexts.items (c.requires.offered first) c.args.p (slice_index_or t c.args.p (Load 0 0)) (slice_get-get_or t c.args.p (Load 0 0) c.requires.p) c.asked.result c.asked.ensures)
