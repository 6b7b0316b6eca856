-- gen-image SEED SIZE: the generated image.
use Rattle.std.specs.Prelude.{ℕ, []}
use Rattle.strand_image.specs.Image.{image_bytes}
use Rattle.strand_modules.specs.Bank.{BankSeen}
use Rattle.strand_again.specs.Inputs.{Inputs}
use Rattle.strand_app.specs.Generated.{generated}
use Rattle.strand_app.specs.Reads.{decided}
use Rattle.strand_app.specs.Rule.{Rule}
use Rattle.strand_app.specs.Still.{still_rule}

abbrev pub gen_image_rule : (seed size : ℕ) → BankSeen → Rule
gen_image_rule seed size = still_rule Inputs [] (λ contents. decided (generated seed size)) (λ u. image_bytes u.image)
