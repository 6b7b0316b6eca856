use Rattle.strand_again.specs.Inputs.{inputs}
use Rattle.strand_run.proofs.RunImage.{run_read, run_unread, run_stopped, starts}
use Rattle.strand_run.proofs.running.run_image.Goals as goal

pub run_steps-requires-clause-starts : goal.run_steps-requires-clause-starts
run_steps-requires-clause-starts g c =
    let fills = rw c.persistent.ensures.persistent at c.in_default.ensures in
    starts (inputs c.args.config.now c.args.image.now c.args.steps.now) _ _ fills

pub returns-in-Ok-clause-ran : goal.returns-in-Ok-clause-ran
returns-in-Ok-clause-ran g c =
    let fills = rw c.persistent.ensures.persistent at c.in_default.ensures in
    run_read (inputs c.args.config.now c.args.image.now c.args.steps.now) _ _ _ fills c.in-Ok.run' c.in-Ok.ensures.kept c.in-Ok.ensures.ran

pub returns-in-Err-Read-clause-ran : goal.returns-in-Err-Read-clause-ran
returns-in-Err-Read-clause-ran g c =
    let fills = rw c.persistent.ensures.persistent at c.in_default.ensures in
    let failed = rw c.in-Err-Read.field-0-is at c.in-Err-Read.ensures in
    run_unread (inputs c.args.config.now c.args.image.now c.args.steps.now) _ _ _ fills c.in-Err-Read.refused.«module» failed.kept failed.fault

pub returns-in-Err-OutOfMemory-clause-memory : goal.returns-in-Err-OutOfMemory-clause-memory
returns-in-Err-OutOfMemory-clause-memory g c =
    let fills = rw c.persistent.ensures.persistent at c.in_default.ensures in
    let failed = rw c.in-Err-OutOfMemory.field-0-is at c.in-Err-OutOfMemory.ensures in
    run_stopped (inputs c.args.config.now c.args.image.now c.args.steps.now) _ _ _ fills failed.kept failed.fault
