-- asm TEXT: the image that an assembler text gives.
use Rattle.std.specs.Prelude.{ℕ, List, [], ◌∷◌}
use Rattle.strand_image.specs.Image.{image_bytes}
use Rattle.strand_image.specs.ImageSeen.{ImageSeen}
use Rattle.strand_modules.specs.Bank.{BankSeen}
use Rattle.strand_app.specs.Contents.{text_in}
use Rattle.strand_app.specs.Reads.{file}
use Rattle.strand_app.specs.Rule.{Rule}
use Rattle.strand_app.specs.Still.{still_rule}

abbrev pub asm_rule : (text : List ℕ) → BankSeen → Rule
asm_rule text = still_rule ImageSeen (text ∷ []) (file 1 text_in) image_bytes
