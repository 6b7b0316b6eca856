use Rattle.strand_app.specs.Contents.{schedule_in}
use Rattle.strand_app.proofs.FetchesFile.{not_fetched, read, schedule_long}
use Rattle.strand_app.proofs.contents.fetch_schedule.Goals as goal

pub returns-in_err-bytes-clause-says : goal.returns-in_err-bytes-clause-says
returns-in_err-bytes-clause-says g c = not_fetched c.args.file (schedule_in c.args.config.now c.args.image.now) (λ steps. steps) _ _ _ _ _ _ c.from_residual.ensures.1 (schedule_long c.args.config.now c.args.image.now) c.in_err-bytes.ensures

pub returns-clause-says : goal.returns-clause-says
returns-clause-says g c = read c.args.file (schedule_in c.args.config.now c.args.image.now) (λ steps. steps) _ _ _ _ c.in_ok-bytes.bytes _ c.in_ok-bytes.ensures (rw c.deref.ensures.value at c.schedule_of.ensures.says)
