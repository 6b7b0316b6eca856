use Rattle.strand_app.specs.Contents.{image_in}
use Rattle.strand_app.proofs.FetchesFile.{not_fetched, read, image_long}
use Rattle.strand_app.proofs.contents.fetch_image.Goals as goal

pub returns-in_err-bytes : goal.returns-in_err-bytes
returns-in_err-bytes g c = not_fetched c.args.file image_in (λ image. image) _ _ _ _ _ _ c.from_residual.ensures.1 image_long c.in_err-bytes.ensures

pub returns : goal.returns
returns g c = read c.args.file image_in (λ image. image) _ _ _ _ c.in_ok-bytes.bytes _ c.in_ok-bytes.ensures (rw c.deref.ensures.value at c.image_of.ensures)
