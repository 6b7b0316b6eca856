use Rattle.std.proofs.Common.{arith, ap, length, List, ℕ}
use Rattle.std.specs.Prelude.{slice_index_or}
use Rattle.strand_events.proofs.Joins.{persist_there, joined_more, joined_same}
use Rattle.strand_events.proofs.TraceInvariant.{persists_most}
use Rattle.strand_events.proofs.joined.joined_numbers.Goals.{then-event-ends+in_ok-push, else-event-ends}
use Rattle.strand_events.proofs.joined.joined_numbers.Goals as goal

pub bounds-events-event : goal.bounds-events-event
bounds-events-event c =
    let p = c.loop-number.number in
    (persist_there c.args.events.now p _ (omega (arith, ap length c.requires.persists)) (ap (λ (xs : List ℕ). slice_index_or xs p 0) c.requires.persists)).0

pub overflow_add-event : goal.overflow_add-event
overflow_add-event c =
    let p = c.loop-number.number in
    let there = (persist_there c.args.events.now p _ (omega (arith, ap length c.requires.persists)) (ap (λ (xs : List ℕ). slice_index_or xs p 0) c.requires.persists)).0 in
    omega (arith, there, c.requires.small)

pub overflow_cast-number : goal.overflow_cast-number
overflow_cast-number c = omega (arith, ap length c.requires.persists, persists_most c.args.events.now, c.requires.small)

pub loop-number-preserved : goal.loop-number-preserved
loop-number-preserved c =
    let p = c.loop-number.number in
    elim c.if-event-ends.branch [
      | then-event-ends+in_ok-push w ↦
          rw w.numbers-is (joined_more c.args.events.now p _ (omega (arith, ap length c.requires.persists)) (ap (λ (xs : List ℕ). slice_index_or xs p 0) c.requires.persists)
          c.join_ends-ends.result _ c.requires.fits c.join_ends-ends.ensures c.loop-number.numbers _ (rw c.core-core.ensures at w.if-event-ends.true) c.loop-number.invariant w.in_ok-push.ensures.ok)
      | else-event-ends w ↦
          rw w.numbers-is (joined_same c.args.events.now p _ (omega (arith, ap length c.requires.persists)) (ap (λ (xs : List ℕ). slice_index_or xs p 0) c.requires.persists)
          c.join_ends-ends.result _ c.requires.fits c.join_ends-ends.ensures c.loop-number.numbers (rw c.core-core.ensures at w.if-event-ends.false) c.loop-number.invariant)
    ]
