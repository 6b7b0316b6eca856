use Rattle.std.proofs.Common.{◌≡◌, ◌+◌, suc, true, sym, ap, ◌∙◌, arith, subst, add-one}
use Rattle.std.specs.Prelude.{slice_index}
use Rattle.strand_events.specs.Trace.{event_is, is_persist, persist_number}
use Rattle.strand_order.proofs.Paths.Steps.{edge_less}
use Rattle.strand_path.specs.Checked.{has_at}
use Rattle.strand_path.proofs.Check.Chain.{along_same, along_more, along_stops, IsAlong}
use Rattle.strand_path.proofs.checking.is_along.Goals as goal
use Rattle.strand_path.proofs.checking.is_along.Goals.{then-is_persist_at+else-not-has_at, else-is_persist_at}

pub returns-then-not-has_at-clause-no : goal.returns-then-not-has_at-clause-no
returns-then-not-has_at-clause-no c = λ e.
    let t = c.args.graph.now.events in
    let x = slice_index c.args.route.now c.loop-k.k in
    let number : c.number_from-number.result ≡ persist_number t x = c.number_from-number.ensures ∙ ap (λ ev. persist_number ev x) c.events-events.ensures.events in
    let is : event_is is_persist t x ≡ true = ap (λ ev. event_is is_persist ev x) (sym c.events-events.ensures.events) ∙ sym c.is_persist_at.ensures ∙ c.if-is_persist_at.true in
    absurd (along_stops t c.args.chain.now c.args.route.now c.loop-k.k c.loop-k.next (omega (arith, c.loop-k-test.true)) is
    (ap (has_at c.args.chain.now c.loop-k.next) (sym number) ∙ sym c.has_at.ensures ∙ c.if-not-has_at.true) c.loop-k.invariant.along e)

pub loop-k-preserved : goal.loop-k-preserved
loop-k-preserved c =
    let t = c.args.graph.now.events in
    let chain = c.args.chain.now in
    let route = c.args.route.now in
    let k = c.loop-k.k in
    let x = slice_index route k in
    let number : c.number_from-number.result ≡ persist_number t x = c.number_from-number.ensures ∙ ap (λ ev. persist_number ev x) c.events-events.ensures.events in
    let same_test = ap (λ ev. event_is is_persist ev x) (sym c.events-events.ensures.events) ∙ sym c.is_persist_at.ensures in
    record {
      along = elim c.if-is_persist_at.branch [
        | then-is_persist_at+else-not-has_at w ↦
            subst (λ n. IsAlong t chain route (k + 1) n) (sym w.next-is)
            (along_more t chain route k c.loop-k.next (omega (arith, c.loop-k-test.true)) (same_test ∙ w.if-is_persist_at.true) (ap (has_at chain c.loop-k.next) (sym number) ∙ sym w.has_at.ensures ∙ w.if-not-has_at.false) c.loop-k.invariant.along)
        | else-is_persist_at w ↦
            subst (λ n. IsAlong t chain route (k + 1) n) (sym w.next-is)
            (along_same t chain route k c.loop-k.next (omega (arith, c.loop-k-test.true)) (same_test ∙ w.if-is_persist_at.false) c.loop-k.invariant.along)
      ];
      number_is = number;
      rising = λ lt. let edge = c.requires.joined k (omega (arith, lt)) in omega (arith, edge_less c.args.graph.now.mode t x (slice_index route (suc k)) edge, ap (slice_index route) (add-one k));
    }
