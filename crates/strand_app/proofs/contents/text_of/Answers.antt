use Rattle.strand_app.specs.declared.file_sizes.TheConstants.{MOST_FILE_BYTES}
use Rattle.strand_report.specs.declared.refusal.ContentFault.TheVariants.{Text}
use Rattle.strand_app.specs.Contents.{text_in}
use Rattle.strand_app.proofs.FetchesFile.{found, text_said}
use Rattle.strand_app.proofs.contents.text_of.Goals as goal

pub returns-in-Ok : goal.returns-in-Ok
unfolding text_in
returns-in-Ok c = found MOST_FILE_BYTES Text _ _ c.in-Ok.image c.requires c.in-Ok.ensures.gives

pub returns-in-Err : goal.returns-in-Err
unfolding text_in
returns-in-Err c = rw c.open_fault.ensures (text_said 1 (λ image. image) MOST_FILE_BYTES _ _ c.in-Err.fault c.requires c.in-Err.ensures.gives)
