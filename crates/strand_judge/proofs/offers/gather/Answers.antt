use Rattle.std.proofs.Common.{◌≡◌, ◌-◌, suc, [], length, sym, arith, subst}
use Rattle.std.specs.Prelude.{slice_index_or}
use Rattle.std.proofs.lemmas.Option.{slice_get-get_or}
use Rattle.strand_events.specs.declared.event.Event.{Event}
use Rattle.strand_events.specs.declared.event.Event.TheVariants.{Load}
use Rattle.strand_judge.specs.Words.{crash_of}
use Rattle.strand_judge.specs.Offered.{AreOffered}
use Rattle.strand_judge.proofs.Least.Offers.{offered_more}
use Rattle.strand_judge.proofs.offers.gather.Goals as goal

pub note-requires-clause-firsts : goal.note-requires-clause-firsts
note-requires-clause-firsts c = (c.loop-k.invariant.offered []).long

pub note-requires-clause-nexts : goal.note-requires-clause-nexts
note-requires-clause-nexts c = omega (arith, (c.loop-k.invariant.offered []).long_nexts, c.loop-k.invariant.bound, c.loop-k-test.true)

pub loop-k-preserved : goal.loop-k-preserved
loop-k-preserved c =
    let t = c.args.events.now in
    let k = c.loop-k.k - 1 in
    let e : Event = slice_index_or t k (Load 0 0) in
    let is : suc k ≡ c.loop-k.k = omega (arith, c.loop-k-test.true) in
    record {
      bound = omega (arith, c.loop-k.invariant.bound);
      offered = λ first. offered_more t first c.args.found.now c.requires.within k e (slice_get-get_or t k (Load 0 0) (omega (arith, c.loop-k.invariant.bound, c.loop-k-test.true))) c.loop-k.offered.firsts.items c.loop-k.offered.nexts.items c.note.new.offered.firsts.items c.note.new.offered.nexts.items
          (subst (λ m. AreOffered t (crash_of first c.args.found.now) (length c.args.found.now) m c.loop-k.offered.firsts.items c.loop-k.offered.nexts.items) (sym is) (c.loop-k.invariant.offered first)) c.note.ensures.nexts c.note.ensures.firsts;
    }

pub returns : goal.returns
returns c = λ first. subst (λ m. AreOffered c.args.events.now (crash_of first c.args.found.now) (length c.args.found.now) m c.loop-k.offered.firsts.items c.loop-k.offered.nexts.items) (omega (arith, c.loop-k-test.false)) (c.loop-k.invariant.offered first)
