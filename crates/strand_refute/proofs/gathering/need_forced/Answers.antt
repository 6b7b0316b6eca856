use Rattle.std.proofs.Common.{◌≡◌, ◌<◌, length, sym, ◌∙◌, arith, subst}
use Rattle.std.specs.Prelude.{slice_index}
use Rattle.std.proofs.lemmas.List.{get_or_read}
use Rattle.strand_base.specs.Places.{address_of}
use Rattle.strand_events.specs.Trace.{is_persist, is_access}
use Rattle.strand_events.proofs.PersistOrder.Epochs.{weaker, persist_access}
use Rattle.strand_judge.specs.Words.{crash_of}
use Rattle.strand_judge.specs.Gathered.{IsMarkedMore}
use Rattle.strand_judge.proofs.Least.Seeds.{forced_none, forced_same, forced_more}
use Rattle.strand_refute.proofs.Refutes.Explained.{forced_at, offer_within}
use Rattle.strand_refute.proofs.gathering.need_forced.Goals as goal
use Rattle.strand_refute.proofs.gathering.need_forced.Goals.{then-first-place+in_ok-need_since, else-first-place}

pub loop-place-init : goal.loop-place-init
loop-place-init c = record {
  forced = forced_none c.args.events.now c.args.first.now c.args.found.now c.args.offered.now.firsts.items c.args.offered.now.nexts.items c.requires.offered c.args.work.now.marks.items c.args.work.now.list.items c.requires.listed;
  targets = c.requires.targets;
  explained = λ mode ex. ex;
}

pub need_since-requires-clause-within : goal.need_since-requires-clause-within
need_since-requires-clause-within c =
    let t = c.args.events.now in
    let firsts = c.args.offered.now.firsts.items in
    let place = c.loop-place.place in
    let lt : place < length firsts = omega (arith, c.requires.offered.long, c.loop-place-test.true) in
    let at : c.index.result.now ≡ slice_index firsts place = get_or_read firsts place c.index.result.now lt c.index.ensures 0 in
    omega (arith, at, offer_within t (crash_of c.args.first.now c.args.found.now) (address_of place) 0 (slice_index firsts place) (c.requires.offered.first place c.loop-place-test.true))

pub loop-place-preserved : goal.loop-place-preserved
loop-place-preserved c =
    let t = c.args.events.now in
    let first = c.args.first.now in
    let found = c.args.found.now in
    let firsts = c.args.offered.now.firsts.items in
    let nexts = c.args.offered.now.nexts.items in
    let place = c.loop-place.place in
    let lt : place < length firsts = omega (arith, c.requires.offered.long, c.loop-place-test.true) in
    elim c.if-first-place.branch [
      | then-first-place+in_ok-need_since w ↦
          let at : w.index.result.now ≡ slice_index firsts place = get_or_read firsts place w.index.result.now lt w.index.ensures 0 in
          rw w.work-is (record {
            forced = forced_more t first found firsts nexts c.requires.offered c.args.work.now.marks.items c.args.work.now.list.items place c.loop-place.work.marks.items c.loop-place.work.list.items w.need_since.new.work.marks.items w.need_since.new.work.list.items c.loop-place-test.true w.if-first-place.true c.loop-place.invariant.forced
                (subst (λ x. IsMarkedMore (length t) x c.loop-place.work.marks.items c.loop-place.work.list.items w.need_since.new.work.marks.items w.need_since.new.work.list.items) at (w.in_ok-need_since.ensures.more c.loop-place.invariant.forced.listed));
            targets = w.in_ok-need_since.ensures.targets;
            explained = λ mode ex. w.in_ok-need_since.ensures.explained mode (crash_of first found) (λ q is.
                let f = forced_at t first found firsts nexts c.requires.offered place c.loop-place-test.true w.if-first-place.true q (sym at ∙ is) in
                (weaker is_persist is_access persist_access t q f.0, f.1)) (c.loop-place.invariant.explained mode ex);
          })
      | else-first-place w ↦ rw w.work-is (record {
        forced = forced_same t first found firsts nexts c.requires.offered c.args.work.now.marks.items c.args.work.now.list.items place c.loop-place.work.marks.items c.loop-place.work.list.items w.if-first-place.false c.loop-place.invariant.forced;
        targets = c.loop-place.invariant.targets;
        explained = c.loop-place.invariant.explained;
      })
    ]
