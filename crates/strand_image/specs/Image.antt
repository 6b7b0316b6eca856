-- An image file, by whole fields: what its bytes say or their first fault, and the one spelling of an image in each version.
use Rattle.std.specs.Prelude.{◌≡◌, ◌⊎◌, ℕ, Bool, ◌+◌, ◌*◌, nat_lt, nat_le, List, [], ◌∷◌, ◌++◌, length, take, drop, position, slice_index, Option, Some, None, Result, Ok, Err, if◌then◌else◌}
use Rattle.std.specs.Str.{bytes_eq}
use lib.Chars.{codes}
use Rattle.strand_base.specs.LittleEndian.{u32_of, u32s, u64s, bytes_of_u32s, bytes_of_u64s}
use Rattle.strand_image.specs.ImageSeen.{ImageSeen, image_seen}
use Rattle.strand_image.specs.Symbols.{sizes_of, count_before_fault, spelt_symbols, is_whole, bytes_of_symbols}
use Rattle.strand_image.specs.Limits.{is_within_by, FitsFirst}
use Rattle.strand_image.specs.declared.quantity.Quantity.{Quantity}
use Rattle.strand_image.specs.declared.quantity.Quantity.TheVariants.{Cores, Code, Volatile, Persistent, Symbols, Names}
use Rattle.strand_image.specs.declared.fault.ImageFault.{ImageFault}
use Rattle.strand_image.specs.declared.fault.ImageFault.TheVariants.{Magic, Short, Long, Limit, Entry, Symbol as SymbolAt, OutOfMemory}
use Rattle.strand_image.specs.declared.reading.Header.{Header}
use Rattle.strand_image.specs.declared.version.Version.{Version}
use Rattle.strand_image.specs.declared.version.Version.TheVariants.{First, Second}

infixl 10 ◌>>=◌
abbrev pub ◌>>=◌ : {A B : Type 0} → Result A ImageFault → (A → Result B ImageFault) → Result B ImageFault
(Ok x) >>= f = f x
(Err e) >>= f = Err e

-- the first eight bytes of a version, and how many bytes stand before its lists
abbrev pub magic : Version → List ℕ
magic First = codes "STRANDP1"
magic Second = codes "STRANDP2"

abbrev pub head_length : Version → ℕ
head_length First = 24
head_length Second = 32

-- the numbers behind the first eight bytes; version 1 has no symbols
abbrev pub header_at : Version → List ℕ → Header
header_at First bytes = record { version = First; cores = u32_of (drop 8 bytes); code = u32_of (drop 12 bytes); volatile = u32_of (drop 16 bytes); persistent = u32_of (drop 20 bytes); symbols = 0; names = 0 }
header_at Second bytes = record { version = Second; cores = u32_of (drop 8 bytes); code = u32_of (drop 12 bytes); volatile = u32_of (drop 16 bytes); persistent = u32_of (drop 20 bytes); symbols = u32_of (drop 24 bytes); names = u32_of (drop 28 bytes) }

-- the bytes of a whole file
abbrev pub file_length : Header → ℕ
file_length h = head_length h.version + 4 * h.cores + 4 * h.code + 8 * h.volatile + 8 * h.persistent + h.names

-- the lists of a file, one behind the other, and its symbols as far as they are spelt
abbrev pub entries_at : Header → List ℕ → List ℕ
entries_at h bytes = drop (head_length h.version) bytes

abbrev pub code_at : Header → List ℕ → List ℕ
code_at h bytes = drop (4 * h.cores) (entries_at h bytes)

abbrev pub volatile_at : Header → List ℕ → List ℕ
volatile_at h bytes = drop (4 * h.code) (code_at h bytes)

abbrev pub persistent_at : Header → List ℕ → List ℕ
persistent_at h bytes = drop (8 * h.volatile) (volatile_at h bytes)

abbrev pub symbols_at : Header → List ℕ → List ℕ
symbols_at h bytes = drop (8 * h.persistent) (persistent_at h bytes)

abbrev pub parts_at : Header → List ℕ → ImageSeen
parts_at h bytes = image_seen (u32s h.cores (entries_at h bytes)) (u32s h.code (code_at h bytes)) (u64s h.volatile (volatile_at h bytes)) (u64s h.persistent (persistent_at h bytes)) (spelt_symbols h.symbols (symbols_at h bytes)).0

-- each fault, unless all is well with it
abbrev pub has_bytes : ℕ → List ℕ → Result (Unit {0}) ImageFault
has_bytes need bytes = if nat_lt (length bytes) need then Err (Short need (length bytes)) else Ok tt

abbrev pub named_version : List ℕ → Result Version ImageFault
named_version bytes = if bytes_eq (take 8 bytes) (magic First) then Ok First else (if bytes_eq (take 8 bytes) (magic Second) then Ok Second else Err Magic)

abbrev pub limit_check : Version → Quantity → ℕ → Result (Unit {0}) ImageFault
limit_check version what n = if is_within_by version what n then Ok tt else Err (Limit what n)

unfoldable pub within_limits : Version → ℕ → ℕ → ℕ → ℕ → ℕ → Result (Unit {0}) ImageFault
within_limits version cores code volatile persistent symbols = do
  a ← limit_check version Cores cores
  b ← limit_check version Code code
  c ← limit_check version Volatile volatile
  d ← limit_check version Persistent persistent
  limit_check version Symbols symbols

abbrev pub has_length : ℕ → ℕ → Result (Unit {0}) ImageFault
has_length need have = if nat_lt have need then Err (Short need have) else (if nat_lt need have then Err (Long need have) else Ok tt)

-- the first entry that is no code word
abbrev pub unless_stray : ImageSeen → Option ℕ → Result (Unit {0}) ImageFault
unless_stray p None = Ok tt
unless_stray p (Some core) = Err (Entry core (slice_index p.entries core))

unfoldable pub entries_exist : ImageSeen → Result (Unit {0}) ImageFault
entries_exist p = unless_stray p (position (λ entry. nat_le (length p.code) entry) p.entries)

-- the first symbol that breaks a rule
unfoldable pub symbols_stand : ImageSeen → Result (Unit {0}) ImageFault
symbols_stand p = let kept = count_before_fault (sizes_of p) [] p.symbols in if nat_lt kept (length p.symbols) then Err (SymbolAt kept) else Ok tt

-- the image of lists within their limits
unfoldable pub kept_image : ImageSeen → Result ImageSeen ImageFault
kept_image p = do
  a ← entries_exist p
  b ← symbols_stand p
  Ok p

unfoldable pub header_within : Header → Result Header ImageFault
header_within h = do
  a ← within_limits h.version h.cores h.code h.volatile h.persistent h.symbols
  b ← limit_check h.version Names h.names
  Ok h

unfoldable pub version_of : List ℕ → Result Version ImageFault
version_of bytes = do
  a ← has_bytes 24 bytes
  named_version bytes

unfoldable pub header_of : List ℕ → Result Header ImageFault
header_of bytes = do
  version ← version_of bytes
  a ← has_bytes (head_length version) bytes
  header_within (header_at version bytes)

-- the image of lists, where its symbols are all that a file has
unfoldable pub whole_image : ImageSeen → Bool → Result ImageSeen ImageFault
whole_image p whole = do
  q ← kept_image p
  if whole then Ok q else Err (SymbolAt (length p.symbols))

abbrev pub parts_image : Header → List ℕ → Result ImageSeen ImageFault
parts_image h bytes = whole_image (parts_at h bytes) (is_whole h.symbols (spelt_symbols h.symbols (symbols_at h bytes)))

-- what the bytes of a file say
unfoldable pub image_of : List ℕ → Result ImageSeen ImageFault
image_of bytes = do
  h ← header_of bytes
  a ← has_length (file_length h) (length bytes)
  parts_image h bytes

-- the limits of an image, which are those of version 2
abbrev pub within_image_limits : ℕ → ℕ → ℕ → ℕ → ℕ → Result (Unit {0}) ImageFault
within_image_limits cores code volatile persistent symbols = within_limits Second cores code volatile persistent symbols

-- the image of five lists
unfoldable pub checked_image : ImageSeen → Result ImageSeen ImageFault
checked_image p = do
  a ← within_image_limits (length p.entries) (length p.code) (length p.volatile) (length p.persistent) (length p.symbols)
  kept_image p

-- What a function returned is what was read, unless memory ran out.
abbrev pub GivesImage : {X : Type 0} → Result X ImageFault → Result X ImageFault → Type 0
GivesImage (Err OutOfMemory) read = Unit {0}
GivesImage result read = result ≡ read

-- the one spelling of an image in each version
abbrev pub counts_in : Version → ImageSeen → List ℕ
counts_in First p = length p.entries ∷ length p.code ∷ length p.volatile ∷ length p.persistent ∷ []
counts_in Second p = length p.entries ∷ length p.code ∷ length p.volatile ∷ length p.persistent ∷ length p.symbols ∷ length (bytes_of_symbols p.symbols) ∷ []

abbrev pub header_bytes : Version → ImageSeen → List ℕ
header_bytes version p = magic version ++ bytes_of_u32s (counts_in version p)

abbrev pub list_bytes : ImageSeen → List ℕ
list_bytes p = bytes_of_u32s p.entries ++ (bytes_of_u32s p.code ++ (bytes_of_u64s p.volatile ++ (bytes_of_u64s p.persistent ++ bytes_of_symbols p.symbols)))

unfoldable pub bytes_in : Version → ImageSeen → List ℕ
bytes_in version p = header_bytes version p ++ list_bytes p

-- An image is written in version 2.
abbrev pub image_bytes : ImageSeen → List ℕ
image_bytes p = bytes_in Second p

-- bytes that spell an image, in version 1 where it can say the image, or in version 2
abbrev pub Spells : List ℕ → ImageSeen → Type 0
Spells bytes p = (FitsFirst p × (bytes ≡ bytes_in First p)) ⊎ (bytes ≡ bytes_in Second p)
