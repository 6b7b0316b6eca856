-- upgrade IMAGE: the image in version 2, from a file of either version.
use Rattle.std.specs.Prelude.{ℕ, List, [], ◌∷◌}
use Rattle.strand_image.specs.Image.{image_bytes}
use Rattle.strand_image.specs.ImageSeen.{ImageSeen}
use Rattle.strand_modules.specs.Bank.{BankSeen}
use Rattle.strand_app.specs.Contents.{image_in}
use Rattle.strand_app.specs.Reads.{file}
use Rattle.strand_app.specs.Rule.{Rule}
use Rattle.strand_app.specs.Still.{still_rule}

abbrev pub upgrade_rule : (image : List ℕ) → BankSeen → Rule
upgrade_rule image = still_rule ImageSeen (image ∷ []) (file 1 image_in) image_bytes
