use Rattle.std.proofs.Common.{refl}
use Rattle.std.proofs.lemmas.Result.{err_from_is_err_and}
use Rattle.strand_report.specs.Report.{report_text}
use Rattle.strand_report.proofs.TextParts.{in_parts, further, stopped, last_of_all}
use Rattle.strand_report.proofs.run.write_run.Goals as goal

pub returns-in_err-put_stop : goal.returns-in_err-put_stop
unfolding report_text
returns-in_err-put_stop c =
    let p = err_from_is_err_and c.from_residual.result c.from_residual.ensures.1 in
    rw p.1 (stopped _ _ c.in_err-put_stop.ensures (in_parts refl))

pub returns-in_err-put_cores : goal.returns-in_err-put_cores
unfolding report_text
returns-in_err-put_cores c =
    let p = err_from_is_err_and c.from_residual-in_err-put_cores.result c.from_residual-in_err-put_cores.ensures.1 in
    rw p.1 (stopped _ _ c.in_err-put_cores.ensures
    (further _ _ c.in_ok-put_stop.ensures (in_parts refl)))

pub returns-in_err-put_outs : goal.returns-in_err-put_outs
unfolding report_text
returns-in_err-put_outs c =
    let p = err_from_is_err_and c.from_residual-in_err-put_outs.result c.from_residual-in_err-put_outs.ensures.1 in
    rw p.1 (stopped _ _ (rw c.events.ensures.events at c.in_err-put_outs.ensures)
    (further _ _ c.in_ok-put_cores.ensures
    (further _ _ c.in_ok-put_stop.ensures (in_parts refl))))

pub returns-in_err-put_bubbles : goal.returns-in_err-put_bubbles
unfolding report_text
returns-in_err-put_bubbles c =
    let p = err_from_is_err_and c.from_residual-in_err-put_bubbles.result c.from_residual-in_err-put_bubbles.ensures.1 in
    rw p.1 (stopped _ _ c.in_err-put_bubbles.ensures
    (further _ _ (rw c.events.ensures.events at c.in_ok-put_outs.ensures)
    (further _ _ c.in_ok-put_cores.ensures
    (further _ _ c.in_ok-put_stop.ensures (in_parts refl)))))

pub returns-in_err-put_visible : goal.returns-in_err-put_visible
unfolding report_text
returns-in_err-put_visible c =
    let p = err_from_is_err_and c.from_residual-in_err-put_visible.result c.from_residual-in_err-put_visible.ensures.1 in
    rw p.1 (stopped _ _ c.in_err-put_visible.ensures
    (further _ _ c.in_ok-put_bubbles.ensures
    (further _ _ (rw c.events.ensures.events at c.in_ok-put_outs.ensures)
    (further _ _ c.in_ok-put_cores.ensures
    (further _ _ c.in_ok-put_stop.ensures (in_parts refl))))))

pub returns-in_err-put_words : goal.returns-in_err-put_words
unfolding report_text
returns-in_err-put_words c =
    let p = err_from_is_err_and c.from_residual-in_err-put_words.result c.from_residual-in_err-put_words.ensures.1 in
    rw p.1 (stopped _ _ c.in_err-put_words.ensures
    (further _ _ c.in_ok-put_visible.ensures
    (further _ _ c.in_ok-put_bubbles.ensures
    (further _ _ (rw c.events.ensures.events at c.in_ok-put_outs.ensures)
    (further _ _ c.in_ok-put_cores.ensures
    (further _ _ c.in_ok-put_stop.ensures (in_parts refl)))))))

pub returns-in_err-put_durable : goal.returns-in_err-put_durable
unfolding report_text
returns-in_err-put_durable c =
    let p = err_from_is_err_and c.from_residual-in_err-put_durable.result c.from_residual-in_err-put_durable.ensures.1 in
    rw p.1 (stopped _ _ c.in_err-put_durable.ensures
    (further _ _ c.in_ok-put_words.ensures
    (further _ _ c.in_ok-put_visible.ensures
    (further _ _ c.in_ok-put_bubbles.ensures
    (further _ _ (rw c.events.ensures.events at c.in_ok-put_outs.ensures)
    (further _ _ c.in_ok-put_cores.ensures
    (further _ _ c.in_ok-put_stop.ensures (in_parts refl))))))))

pub returns-in_err-put_members : goal.returns-in_err-put_members
unfolding report_text
returns-in_err-put_members c =
    let p = err_from_is_err_and c.from_residual-in_err-put_members.result c.from_residual-in_err-put_members.ensures.1 in
    rw p.1 (stopped _ _ (rw c.as_slice.ensures at c.in_err-put_members.ensures)
    (further _ _ c.in_ok-put_durable.ensures
    (further _ _ c.in_ok-put_words.ensures
    (further _ _ c.in_ok-put_visible.ensures
    (further _ _ c.in_ok-put_bubbles.ensures
    (further _ _ (rw c.events.ensures.events at c.in_ok-put_outs.ensures)
    (further _ _ c.in_ok-put_cores.ensures
    (further _ _ c.in_ok-put_stop.ensures (in_parts refl)))))))))

pub returns-in_err-put_caches : goal.returns-in_err-put_caches
unfolding report_text
returns-in_err-put_caches c =
    let p = err_from_is_err_and c.from_residual-in_err-put_caches.result c.from_residual-in_err-put_caches.ensures.1 in
    rw p.1 (stopped _ _ c.in_err-put_caches.ensures
    (further _ _ (rw c.as_slice.ensures at c.in_ok-put_members.ensures)
    (further _ _ c.in_ok-put_durable.ensures
    (further _ _ c.in_ok-put_words.ensures
    (further _ _ c.in_ok-put_visible.ensures
    (further _ _ c.in_ok-put_bubbles.ensures
    (further _ _ (rw c.events.ensures.events at c.in_ok-put_outs.ensures)
    (further _ _ c.in_ok-put_cores.ensures
    (further _ _ c.in_ok-put_stop.ensures (in_parts refl))))))))))

pub returns : goal.returns
unfolding report_text
returns c =
    last_of_all c.put_fault.result _ _ c.put_fault.ensures
    (further _ _ c.in_ok-put_caches.ensures
    (further _ _ (rw c.as_slice.ensures at c.in_ok-put_members.ensures)
    (further _ _ c.in_ok-put_durable.ensures
    (further _ _ c.in_ok-put_words.ensures
    (further _ _ c.in_ok-put_visible.ensures
    (further _ _ c.in_ok-put_bubbles.ensures
    (further _ _ (rw c.events.ensures.events at c.in_ok-put_outs.ensures)
    (further _ _ c.in_ok-put_cores.ensures
    (further _ _ c.in_ok-put_stop.ensures (in_parts refl))))))))))
