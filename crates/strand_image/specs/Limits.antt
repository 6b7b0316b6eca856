-- How much an image and a file of each version may have, and what holds of every image.
use Rattle.std.specs.Prelude.{◌≡◌, ℕ, ◌<◌, ◌≤◌, ◌^◌, ◌&&◌, Bool, nat_le, List, [], length, slice_index}
use Rattle.strand_base.specs.declared.limits.TheConstants.{MOST_CORES, MOST_CODE, MOST_DATA, MOST_SYMBOLS, MOST_NAMES, FIRST_MOST_CORES, FIRST_MOST_CODE, FIRST_MOST_DATA}
use Rattle.strand_base.specs.LittleEndian.{AreBelow}
use Rattle.strand_image.specs.ImageSeen.{ImageSeen}
use Rattle.strand_image.specs.Symbols.{AreSymbols, sizes_of, bytes_of_symbols}
use Rattle.strand_image.specs.declared.quantity.Quantity.{Quantity}
use Rattle.strand_image.specs.declared.quantity.Quantity.TheVariants.{Cores, Code, Volatile, Persistent, Symbols, Names}
use Rattle.strand_image.specs.declared.version.Version.{Version}
use Rattle.strand_image.specs.declared.version.Version.TheVariants.{First, Second}

-- the least number of each quantity, and the greatest that a file of a version has
abbrev pub least : Quantity → ℕ
least Cores = 1
least Code = 1
least Volatile = 0
least Persistent = 1
least Symbols = 0
least Names = 0

abbrev pub most : Version → Quantity → ℕ
most First Cores = FIRST_MOST_CORES
most First Code = FIRST_MOST_CODE
most First Volatile = FIRST_MOST_DATA
most First Persistent = FIRST_MOST_DATA
most First Symbols = 0
most First Names = 0
most Second Cores = MOST_CORES
most Second Code = MOST_CODE
most Second Volatile = MOST_DATA
most Second Persistent = MOST_DATA
most Second Symbols = MOST_SYMBOLS
most Second Names = MOST_NAMES

abbrev pub is_within_by : Version → Quantity → ℕ → Bool
is_within_by version what n = nat_le (least what) n && nat_le n (most version what)

abbrev pub IsWithinBy : Version → Quantity → ℕ → Type 0
IsWithinBy version what n = (least what ≤ n) × (n ≤ most version what)

-- An image has no more than a file of version 2.
abbrev pub is_within : Quantity → ℕ → Bool
is_within what n = is_within_by Second what n

abbrev pub IsWithin : Quantity → ℕ → Type 0
IsWithin what n = IsWithinBy Second what n

pub record IsWithinLimits (version : Version) (cores code volatile persistent symbols : ℕ) : Type 0 where
  pub cores_within : IsWithinBy version Cores cores
  pub code_within : IsWithinBy version Code code
  pub volatile_within : IsWithinBy version Volatile volatile
  pub persistent_within : IsWithinBy version Persistent persistent
  pub symbols_within : IsWithinBy version Symbols symbols

-- an image that a file of version 1 can say
pub record FitsFirst (p : ImageSeen) : Type 0 where
  pub plain : p.symbols ≡ []
  pub limits : IsWithinLimits First (length p.entries) (length p.code) (length p.volatile) (length p.persistent) 0

-- each entry is the number of a code word
abbrev pub AreEntries : List ℕ → ℕ → Type 0
AreEntries entries words = (core : ℕ) → core < length entries → slice_index entries core < words

pub record IsImage (p : ImageSeen) : Type 0 where
  pub limits : IsWithinLimits Second (length p.entries) (length p.code) (length p.volatile) (length p.persistent) (length p.symbols)
  pub names : IsWithin Names (length (bytes_of_symbols p.symbols))
  pub entries : AreEntries p.entries (length p.code)
  pub symbols : AreSymbols (sizes_of p) p.symbols
  pub entry_numbers : AreBelow (2 ^ 32) p.entries
  pub code_numbers : AreBelow (2 ^ 32) p.code
  pub volatile_numbers : AreBelow (2 ^ 64) p.volatile
  pub persistent_numbers : AreBelow (2 ^ 64) p.persistent
