use Rattle.std.proofs.Common.{sym}
use Rattle.strand_app.specs.declared.file_sizes.TheConstants.{MOST_IMAGE_BYTES}
use Rattle.strand_report.specs.declared.refusal.ContentFault.TheVariants.{Image}
use Rattle.strand_app.specs.Contents.{image_in}
use Rattle.strand_app.proofs.FetchesFile.{found, image_said}
use Rattle.strand_app.proofs.contents.image_of.Goals as goal

pub returns-in-Ok : goal.returns-in-Ok
unfolding image_in
returns-in-Ok c = found MOST_IMAGE_BYTES Image _ _ c.in-Ok.image c.requires (sym c.in-Ok.ensures.gives)

pub returns-in-Err : goal.returns-in-Err
unfolding image_in
returns-in-Err c = rw c.open_fault.ensures (image_said c.args.file (λ image. image) MOST_IMAGE_BYTES _ _ c.in-Err.fault c.requires c.in-Err.ensures.gives)
