use Rattle.strand_refute.specs.declared.limits.TheConstants.{MOST_CERTIFICATE_BYTES}
use Rattle.strand_report.specs.declared.refusal.ContentFault.TheVariants.{Input}
use Rattle.strand_app.specs.Contents.{certificate_in}
use Rattle.strand_app.proofs.FetchesFile.{found, input_said}
use Rattle.strand_app.proofs.contents.certificate_of.Goals as goal

pub returns-in-Ok : goal.returns-in-Ok
unfolding certificate_in
returns-in-Ok c = found MOST_CERTIFICATE_BYTES Input _ _ c.in-Ok.certificate c.requires c.in-Ok.ensures

pub returns-in-Err : goal.returns-in-Err
unfolding certificate_in
returns-in-Err c = rw c.open_fault.ensures (input_said 5 (λ certificate. certificate) MOST_CERTIFICATE_BYTES _ _ c.in-Err.fault c.requires c.in-Err.ensures)
