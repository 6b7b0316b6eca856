use Rattle.std.proofs.Common.{◌≡◌, []}
use Rattle.std.proofs.lemmas.List.{take_rest, nil_from_length}
use Rattle.std.proofs.lemmas.Result.{err_from_is_err_and}
use Rattle.strand_inputs.specs.Schedule.{schedule_text}
use Rattle.strand_base.proofs.AppendsFront.{so_far_none, so_far_more, so_far_stops, so_far_all}
use Rattle.strand_inputs.proofs.ScheduleAgain.{text_repeat, text_none}
use Rattle.strand_inputs.proofs.schedule_printing.put_repeats.Goals as goal

pub loop-first-init : goal.loop-first-init
loop-first-init c = so_far_none _ _

pub returns-in_err-put_repeat : goal.returns-in_err-put_repeat
returns-in_err-put_repeat c =
    let p = err_from_is_err_and c.from_residual.result c.from_residual.ensures.1 in
    rw p.1 (so_far_stops _ _ _ _ _ _ _ c.loop-first.invariant (text_repeat c.loop-first.rest.now c.in-Some.first.now c.in-Some.others.now c.same_front-more.result c.in-Some.ensures.cases.0 c.same_front-more.ensures.value) c.in_err-put_repeat.ensures)

pub loop-first-preserved : goal.loop-first-preserved
loop-first-preserved c =
    rw take_rest (so_far_more _ _ _ _ _ _ _ c.loop-first.invariant (text_repeat c.loop-first.rest.now c.in-Some.first.now c.in-Some.others.now c.same_front-more.result c.in-Some.ensures.cases.0 c.same_front-more.ensures.value) c.in_ok-put_repeat.ensures)

pub returns : goal.returns
returns c =
    let nothing : c.loop-first.rest.now ≡ [] = nil_from_length _ c.in_default.ensures.cases in
    so_far_all (schedule_text c.args.steps.now) c.args.into.now.items c.loop-first.into.items (rw (nothing, text_none) at c.loop-first.invariant)
