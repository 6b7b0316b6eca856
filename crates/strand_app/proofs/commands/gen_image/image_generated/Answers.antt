use Rattle.strand_image.specs.Image.{image_bytes}
use Rattle.strand_app.proofs.GenCommands.{generated_comes, generated_fails}
use Rattle.strand_app.proofs.commands.gen_image.image_generated.Goals as goal

pub returns-in-Ok : goal.returns-in-Ok
returns-in-Ok c = λ same. generated_comes c.args.seed c.args.size (λ u. image_bytes u.image) same _ _ c.in-Ok.ensures.given c.image_file.ensures

pub returns-in-Err : goal.returns-in-Err
returns-in-Err c = λ same. generated_fails c.args.seed c.args.size (λ u. image_bytes u.image) same _ _ c.in-Err.ensures.given c.refuse.ensures
