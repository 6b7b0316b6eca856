-- list IMAGE: the listing of an image.
use Rattle.std.specs.Prelude.{ℕ, List, [], ◌∷◌}
use Rattle.strand_asm.specs.Listing.{listing}
use Rattle.strand_image.specs.ImageSeen.{ImageSeen}
use Rattle.strand_modules.specs.Bank.{BankSeen}
use Rattle.strand_app.specs.Contents.{image_in}
use Rattle.strand_app.specs.Reads.{file}
use Rattle.strand_app.specs.Rule.{Rule}
use Rattle.strand_app.specs.Still.{still_rule}

abbrev pub list_rule : (image : List ℕ) → BankSeen → Rule
list_rule image = still_rule ImageSeen (image ∷ []) (file 1 image_in) listing
