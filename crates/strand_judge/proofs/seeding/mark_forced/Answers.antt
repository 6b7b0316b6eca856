use Rattle.std.proofs.Common.{◌≡◌, ◌<◌, length, arith, subst}
use Rattle.std.specs.Prelude.{slice_index}
use Rattle.std.proofs.lemmas.List.{get_or_read}
use Rattle.strand_judge.specs.Gathered.{IsMarkedMore}
use Rattle.strand_judge.proofs.Least.Seeds.{forced_none, forced_same, forced_more}
use Rattle.strand_judge.proofs.seeding.mark_forced.Goals as goal
use Rattle.strand_judge.proofs.seeding.mark_forced.Goals.{then-first-place+in_ok-mark_since, else-first-place}

pub loop-place-init : goal.loop-place-init
loop-place-init c = forced_none c.args.events.now c.args.first.now c.args.found.now c.args.offered.now.firsts.items c.args.offered.now.nexts.items c.requires.offered c.args.marks.now.items c.args.list.now.items c.requires.listed

pub loop-place-preserved : goal.loop-place-preserved
loop-place-preserved c =
    let t = c.args.events.now in
    let firsts = c.args.offered.now.firsts.items in
    let place = c.loop-place.place in
    let lt : place < length firsts = omega (arith, c.requires.offered.long, c.loop-place-test.true) in
    elim c.if-first-place.branch [
      | then-first-place+in_ok-mark_since w ↦
          let at : w.index.result.now ≡ slice_index firsts place = get_or_read firsts place w.index.result.now lt w.index.ensures 0 in
          rw (w.marks-is, w.list-is) (forced_more t c.args.first.now c.args.found.now firsts c.args.offered.now.nexts.items c.requires.offered c.args.marks.now.items c.args.list.now.items place c.loop-place.marks.items c.loop-place.list.items w.mark_since.new.marks.items w.mark_since.new.list.items c.loop-place-test.true w.if-first-place.true c.loop-place.invariant
          (subst (λ x. IsMarkedMore (length t) x c.loop-place.marks.items c.loop-place.list.items w.mark_since.new.marks.items w.mark_since.new.list.items) at (w.in_ok-mark_since.ensures (length t) c.loop-place.invariant.listed)))
      | else-first-place w ↦ rw (w.marks-is, w.list-is) (forced_same t c.args.first.now c.args.found.now firsts c.args.offered.now.nexts.items c.requires.offered c.args.marks.now.items c.args.list.now.items place c.loop-place.marks.items c.loop-place.list.items w.if-first-place.false c.loop-place.invariant)
    ]
