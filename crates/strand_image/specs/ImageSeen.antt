-- An image, as contracts see it: five lists.
use Rattle.std.specs.Prelude.{ℕ, List}
use Rattle.strand_image.specs.declared.symbol.Symbol.{Symbol}

pub record ImageSeen : Type 0 where
  pub entries : List ℕ
  pub code : List ℕ
  pub volatile : List ℕ
  pub persistent : List ℕ
  pub symbols : List Symbol

abbrev pub image_seen : List ℕ → List ℕ → List ℕ → List ℕ → List Symbol → ImageSeen
image_seen entries code volatile persistent symbols = record { entries = entries; code = code; volatile = volatile; persistent = persistent; symbols = symbols }
