use Rattle.strand_image.specs.Image.{image_bytes}
use Rattle.strand_app.specs.Contents.{image_in}
use Rattle.strand_app.proofs.Comes.{one_file_comes, one_file_refused}
use Rattle.strand_app.proofs.commands.upgrade.upgrade_image.Goals as goal

pub returns-in-Ok : goal.returns-in-Ok
returns-in-Ok g c = λ bank. one_file_comes image_in image_bytes _ _ _ bank _ _ c.in-Ok.ensures c.image_file.ensures

pub returns-in-Err : goal.returns-in-Err
returns-in-Err g c = λ bank. one_file_refused image_in image_bytes _ _ _ bank _ _ c.in-Err.ensures c.refuse.ensures
