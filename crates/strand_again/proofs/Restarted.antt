-- Serves the contract of restarted: the copy is an image.
use Rattle.std.proofs.Common.{◌≡◌, ◌^◌, ℕ, List, [], length, arith, sym, subst}
use Rattle.strand_base.specs.LittleEndian.{AreBelow}
use Rattle.strand_image.specs.ImageSeen.{ImageSeen}
use Rattle.strand_image.specs.Limits.{IsImage, IsWithin}
use Rattle.strand_image.specs.Symbols.{AreSymbols, bytes_of_symbols, sizes_of}
use Rattle.strand_image.specs.declared.quantity.Quantity.TheVariants.{Names, Persistent}
use Rattle.strand_again.specs.Inputs.{restarted}

no_symbols : (image : ImageSeen) → AreSymbols (sizes_of image) []
no_symbols image = record { labels = λ k d lt. absurd (omega (arith, lt)); places = λ k d lt. absurd (omega (arith, lt)); ascend = λ i j d lt within. absurd (omega (arith, within)); differ = λ i j d lt within. absurd (omega (arith, within)) }

no_names : IsWithin Names (length (bytes_of_symbols []))
unfolding bytes_of_symbols
no_names = (omega arith, omega arith)

pub restarted_is : (image : ImageSeen) (words : List ℕ) → IsImage image → length words ≡ length image.persistent → AreBelow (2 ^ 64) words → IsImage (restarted image words)
restarted_is image words keeps long numbers = record {
  limits = record {
    cores_within = keeps.limits.cores_within;
    code_within = keeps.limits.code_within;
    volatile_within = keeps.limits.volatile_within;
    persistent_within = subst (λ (n : ℕ). IsWithin Persistent n) (sym long) keeps.limits.persistent_within;
    symbols_within = (omega arith, omega arith);
  };
  names = no_names;
  entries = keeps.entries;
  symbols = no_symbols (restarted image words);
  entry_numbers = keeps.entry_numbers;
  code_numbers = keeps.code_numbers;
  volatile_numbers = keeps.volatile_numbers;
  persistent_numbers = numbers;
}
