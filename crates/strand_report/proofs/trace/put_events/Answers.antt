use Rattle.std.proofs.Common.{◌≡◌, ◌++◌, arith, get_or, subst, ap, sym, ◌∙◌}
use Rattle.std.proofs.lemmas.Result.{err_from_is_err_and}
use Rattle.std.proofs.lemmas.Option.{slice_get-get_or}
use Rattle.strand_base.specs.Puts.{AppendsFront}
use Rattle.strand_events.specs.declared.event.Event.TheVariants.{Load}
use Rattle.strand_events.specs.Trace.{is_persist, event_is, passes}
use Rattle.strand_report.specs.Trace.{event_text, event_line}
use Rattle.strand_report.proofs.CountLoop.{count_more, count_same}
use Rattle.strand_report.proofs.NumberedLoop.{numbered_more, numbered_stops, numbered_all}
use Rattle.strand_report.proofs.trace.put_events.Goals.{then-is_persist, else-is_persist}
use Rattle.strand_report.proofs.trace.put_events.Goals as goal

pub returns-in_err-put_event : goal.returns-in_err-put_event
returns-in_err-put_event c =
    let p = err_from_is_err_and c.from_residual.result c.from_residual.ensures.1 in
    let t = c.args.events.now in
    let k = c.loop-place.place in
    rw p.1 (numbered_stops (event_text t) t k (Load 0 0) _ _ _ (omega arith) c.loop-place.invariant.0
    (subst (λ n. AppendsFront (event_line k n (get_or t k (Load 0 0))) c.loop-place.into.items c.put_event.new.into.items) c.loop-place.invariant.1.0 c.in_err-put_event.ensures))

pub loop-place-preserved : goal.loop-place-preserved
loop-place-preserved c =
    let t = c.args.events.now in
    let k = c.loop-place.place in
    let is = ap (passes is_persist) (slice_get-get_or t k (Load 0 0) (omega arith)) ∙ sym c.is_persist.ensures in (
      numbered_more (event_text t) t k (Load 0 0) _ _ _ (omega arith) c.loop-place.invariant.0
          (subst (λ n. c.put_event.new.into.items ≡ c.loop-place.into.items ++ event_line k n (get_or t k (Load 0 0))) c.loop-place.invariant.1.0 c.in_ok-put_event.ensures),
      elim c.if-is_persist.branch [
        | then-is_persist w ↦ count_more (event_is is_persist t) k c.loop-place.persists _ (is ∙ w.if-is_persist.true) c.loop-place.invariant.1 w.persists-is
        | else-is_persist w ↦ count_same (event_is is_persist t) k c.loop-place.persists _ (is ∙ w.if-is_persist.false) c.loop-place.invariant.1 w.persists-is
      ],
    )

pub returns : goal.returns
returns c = numbered_all (event_text c.args.events.now) c.args.events.now c.loop-place.place _ _ (omega arith) c.loop-place.invariant.0
