use Rattle.strand_app.specs.Contents.{crash_in}
use Rattle.strand_app.proofs.FetchesFile.{not_fetched, read, crash_long}
use Rattle.strand_app.proofs.contents.fetch_crash.Goals as goal

pub returns-in_err-bytes-clause-says : goal.returns-in_err-bytes-clause-says
returns-in_err-bytes-clause-says g c = not_fetched 4 (crash_in c.args.image.now) (λ words. words) _ _ _ _ _ _ c.from_residual.ensures.1 (crash_long c.args.image.now) c.in_err-bytes.ensures

pub returns-clause-says : goal.returns-clause-says
returns-clause-says g c = read 4 (crash_in c.args.image.now) (λ words. words) _ _ _ _ c.in_ok-bytes.bytes _ c.in_ok-bytes.ensures (rw c.deref.ensures.value at c.crash_of.ensures.says)
