use Rattle.strand_app.specs.Contents.{certificate_in}
use Rattle.strand_app.proofs.FetchesFile.{not_fetched, read, certificate_long}
use Rattle.strand_app.proofs.contents.fetch_certificate.Goals as goal

pub returns-in_err-bytes : goal.returns-in_err-bytes
returns-in_err-bytes g c = not_fetched 5 certificate_in (λ certificate. certificate) _ _ _ _ _ _ c.from_residual.ensures.1 certificate_long c.in_err-bytes.ensures

pub returns : goal.returns
returns g c = read 5 certificate_in (λ certificate. certificate) _ _ _ _ c.in_ok-bytes.bytes _ c.in_ok-bytes.ensures (rw c.deref.ensures.value at c.certificate_of.ensures)
