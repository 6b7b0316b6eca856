use Rattle.strand_image.specs.Image.{image_bytes}
use Rattle.strand_app.specs.Contents.{text_in}
use Rattle.strand_app.proofs.Comes.{one_file_comes, one_file_refused}
use Rattle.strand_app.proofs.commands.asm.asm_text.Goals as goal

pub returns-in-Ok : goal.returns-in-Ok
returns-in-Ok g c = λ bank. one_file_comes text_in image_bytes _ _ _ bank _ _ c.in-Ok.ensures c.image_file.ensures

pub returns-in-Err : goal.returns-in-Err
returns-in-Err g c = λ bank. one_file_refused text_in image_bytes _ _ _ bank _ _ c.in-Err.ensures c.refuse.ensures
