use Rattle.strand_app.proofs.top.make.Goals as goal

pub returns-in-Asm : goal.returns-in-Asm
returns-in-Asm g c = rw c.in-Asm.is (c.asm_text.ensures _)

pub returns-in-List : goal.returns-in-List
returns-in-List g c = rw c.in-List.is (c.list_image.ensures _)

pub returns-in-Upgrade : goal.returns-in-Upgrade
returns-in-Upgrade g c = rw c.in-Upgrade.is (c.upgrade_image.ensures _)

pub returns-in-Run : goal.returns-in-Run
returns-in-Run g c = rw c.in-Run.is c.report_run.ensures

pub returns-in-Judge : goal.returns-in-Judge
returns-in-Judge g c = rw c.in-Judge.is c.judge_crash.ensures

pub returns-in-Refute : goal.returns-in-Refute
returns-in-Refute g c = rw c.in-Refute.is c.refute_crash.ensures

pub returns-in-Check : goal.returns-in-Check
returns-in-Check g c = rw c.in-Check.is c.check_claim.ensures

pub returns-in-Trace : goal.returns-in-Trace
returns-in-Trace g c = rw c.in-Trace.is c.trace_run.ensures

pub returns-in-Again : goal.returns-in-Again
returns-in-Again g c = rw c.in-Again.is c.tell_generations.ensures

pub returns-in-Gen : goal.returns-in-Gen
returns-in-Gen g c = rw c.in-Gen.is (c.judge_generated.ensures _)

pub returns-in-GenImage : goal.returns-in-GenImage
returns-in-GenImage g c = rw c.in-GenImage.is (c.image_generated.ensures _)

pub returns-in-GenSchedule : goal.returns-in-GenSchedule
returns-in-GenSchedule g c = rw c.in-GenSchedule.is (c.schedule_generated.ensures _)
