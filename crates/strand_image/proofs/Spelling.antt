-- Serves clauses again of write_image and of read_image, and spelling of read_image.
-- One spelling for each image in each version: what is written is read back, and what is read was written so.
use Rattle.std.proofs.Common.{◌≡◌, ℕ, zero, suc, ◌+◌, ◌*◌, ◌^◌, ◌<◌, ◌≤◌, inl, inr, arith, Bool, true, false, cond, ◌&&◌, ◌==◌, nat_lt, nat_le, length, take, drop, get_or, List, [], ◌∷◌, ◌++◌, Some, None, Result, Ok, Err, refl, sym, ap, subst, ◌∙◌, append_assoc}
use Rattle.std.proofs.lemmas.List.{drop-drop, length-drop, length-append, take-append-drop, append-nil}
use Rattle.std.proofs.lemmas.List.Sums.{position_or_len_is}
use Rattle.std.proofs.lemmas.Bool.Decides.{nat_tests}
use Rattle.std.proofs.lemmas.Slice.Eq.{bytes_eq-Decides}
use Rattle.std.specs.Str.{bytes_eq}
use Rattle.strand_image.specs.ImageSeen.{ImageSeen}
use Rattle.strand_image.specs.Symbols.{words_in, sizes_of, count_before_fault, spelt_symbols, is_whole, bytes_of_symbols}
use Rattle.strand_image.specs.Limits.{AreEntries, FitsFirst, IsWithinBy, IsWithinLimits, IsImage, is_within_by}
use Rattle.strand_image.specs.Image.{magic, head_length, header_at, file_length, entries_at, code_at, volatile_at, persistent_at, symbols_at, parts_at, has_bytes, named_version, version_of, limit_check, within_limits, has_length, entries_exist, unless_stray, symbols_stand, kept_image, whole_image, parts_image, header_within, header_of, image_of, counts_in, list_bytes, bytes_in, image_bytes, Spells, ◌>>=◌}
use Rattle.strand_image.specs.declared.quantity.Quantity.{Quantity}
use Rattle.strand_image.specs.declared.quantity.Quantity.TheVariants.{Cores, Code, Volatile, Persistent, Symbols, Names}
use Rattle.strand_image.specs.declared.fault.ImageFault.{ImageFault}
use Rattle.strand_image.specs.declared.fault.ImageFault.TheVariants.{Magic, Limit, Symbol}
use Rattle.strand_image.specs.declared.reading.Header.{Header}
use Rattle.strand_image.specs.declared.symbol.Region.{Region}
use Rattle.strand_image.specs.declared.symbol.Region.TheVariants as regions
use Rattle.strand_image.specs.declared.symbol.Symbol.{Symbol as SymbolSeen}
use Rattle.strand_image.specs.declared.version.Version.{Version}
use Rattle.strand_image.specs.declared.version.Version.TheVariants.{First, Second}
use Rattle.strand_image.proofs.Rules.{none_broken}
use Rattle.strand_image.proofs.SymbolBytes.{symbols_again, symbols_spelt}
use Rattle.strand_base.specs.LittleEndian.{numbers, u32_of, u64_of, u32s, u64s, bytes_of_u32, bytes_of_u64, bytes_of_u32s, bytes_of_u64s, AreBelow}
use Rattle.strand_base.proofs.LittleEndian.{AreBytes, bytes_in_drop, u32_spells, u64_spells, past_list, length-spelt, list_again, list_spelt, length-numbers, number_at}

-- an image that a file of a version can say
record Fits (version : Version) (p : ImageSeen) : Type 0 where
  image : IsImage p
  limits : IsWithinLimits version (length p.entries) (length p.code) (length p.volatile) (length p.persistent) (length p.symbols)
  names : IsWithinBy version Names (length (bytes_of_symbols p.symbols))

no_symbols : (p : ImageSeen) → FitsFirst p → length (bytes_of_symbols p.symbols) ≡ 0
unfolding bytes_of_symbols
no_symbols p f = rw f.plain refl

fits_first : (p : ImageSeen) → IsImage p → FitsFirst p → Fits First p
fits_first p i f = let none = no_symbols p f in record {
  image = i;
  limits = rw f.plain f.limits;
  names = (omega arith, omega (arith, none));
}

fits_second : (p : ImageSeen) → IsImage p → Fits Second p
fits_second p i = record { image = i; limits = i.limits; names = i.names }

-- the header of an image
abbrev pub header : Version → ImageSeen → Header
header version p = record { version = version; cores = length p.entries; code = length p.code; volatile = length p.volatile; persistent = length p.persistent; symbols = length p.symbols; names = length (bytes_of_symbols p.symbols) }

within_ok : (version : Version) (what : Quantity) (n : ℕ) → IsWithinBy version what n → limit_check version what n ≡ Ok tt
within_ok version what n h = grind (arith, nat_tests)

limits_ok : (version : Version) (cores code volatile persistent symbols : ℕ) → IsWithinLimits version cores code volatile persistent symbols → within_limits version cores code volatile persistent symbols ≡ Ok tt
unfolding within_limits
limits_ok version cores code volatile persistent symbols h =
    rw (within_ok version Cores cores h.cores_within, within_ok version Code code h.code_within, within_ok version Volatile volatile h.volatile_within, within_ok version Persistent persistent h.persistent_within, within_ok version Symbols symbols h.symbols_within) refl

length_ok : (n : ℕ) → has_length n n ≡ Ok tt
length_ok n = grind (arith, nat_tests)

not_le : (m n : ℕ) → n < m → nat_le m n ≡ false
not_le m n lt = grind (arith, nat_tests)

unless_all : (p : ImageSeen) (n : ℕ) → n ≡ length p.entries → unless_stray p (cond (nat_lt n (length p.entries)) (Some n) None) ≡ Ok tt
unless_all p n e = let f : nat_lt n (length p.entries) ≡ false = grind (arith, nat_tests) in rw f refl

entries_ok : (p : ImageSeen) → AreEntries p.entries (length p.code) → entries_exist p ≡ Ok tt
unfolding entries_exist
entries_ok p h =
    unless_all p _ (position_or_len_is (λ entry. nat_le (length p.code) entry) p.entries (length p.entries) 0 (omega arith) (λ k lt. not_le _ _ (h k lt)) (λ lt. absurd (omega arith)))

symbols_ok : (p : ImageSeen) → IsImage p → symbols_stand p ≡ Ok tt
unfolding symbols_stand
symbols_ok p i =
    let all = none_broken (sizes_of p) p.symbols i.symbols in
    let f : nat_lt (count_before_fault (sizes_of p) [] p.symbols) (length p.symbols) ≡ false = grind (arith, nat_tests) in
    rw f refl

kept_ok : (p : ImageSeen) → IsImage p → kept_image p ≡ Ok p
unfolding kept_image
kept_ok p i = rw (entries_ok p i.entries, symbols_ok p i) refl

length-lists : (p : ImageSeen) → length (list_bytes p) ≡ 4 * length p.entries + 4 * length p.code + 8 * length p.volatile + 8 * length p.persistent + length (bytes_of_symbols p.symbols)
length-lists p = simp (
  length-append,
  length-spelt u32_of bytes_of_u32 4 (2 ^ 32) p.entries u32_spells,
  length-spelt u32_of bytes_of_u32 4 (2 ^ 32) p.code u32_spells,
  length-spelt u64_of bytes_of_u64 8 (2 ^ 64) p.volatile u64_spells,
  length-spelt u64_of bytes_of_u64 8 (2 ^ 64) p.persistent u64_spells,
) (omega arith)

-- the counts of an image, which fit 32 bits
counts_below : (version : Version) (p : ImageSeen) → IsImage p → AreBelow (2 ^ 32) (counts_in version p)
counts_below First p i zero lt = omega arith
counts_below First p i (suc zero) lt = omega arith
counts_below First p i (suc (suc zero)) lt = omega arith
counts_below First p i (suc (suc (suc zero))) lt = omega arith
counts_below First p i (suc (suc (suc (suc k)))) lt = absurd (omega arith)
counts_below Second p i zero lt = omega arith
counts_below Second p i (suc zero) lt = omega arith
counts_below Second p i (suc (suc zero)) lt = omega arith
counts_below Second p i (suc (suc (suc zero))) lt = omega arith
counts_below Second p i (suc (suc (suc (suc zero)))) lt = omega arith
counts_below Second p i (suc (suc (suc (suc (suc zero))))) lt = omega arith
counts_below Second p i (suc (suc (suc (suc (suc (suc k)))))) lt = absurd (omega arith)

length-image : (version : Version) (p : ImageSeen) → length (bytes_in version p) ≡ file_length (header version p)
unfolding bytes_in
length-image First p = omega (arith, length-append (bytes_of_u32s (counts_in First p)) (list_bytes p), length-spelt u32_of bytes_of_u32 4 (2 ^ 32) (counts_in First p) u32_spells, length-lists p)
length-image Second p = omega (arith, length-append (bytes_of_u32s (counts_in Second p)) (list_bytes p), length-spelt u32_of bytes_of_u32 4 (2 ^ 32) (counts_in Second p) u32_spells, length-lists p)

count_again : (version : Version) (p : ImageSeen) → IsImage p → (k : ℕ) → k < length (counts_in version p) → u32_of (drop (4 * k) (bytes_of_u32s (counts_in version p) ++ list_bytes p)) ≡ get_or (counts_in version p) k 0
count_again version p i k lt = number_at u32_of bytes_of_u32 4 (2 ^ 32) (counts_in version p) (list_bytes p) k u32_spells (counts_below version p i) lt

-- the header that is written is read back
header_again : (version : Version) (p : ImageSeen) → Fits version p → header_at version (bytes_in version p) ≡ header version p
unfolding bytes_in
header_again First p f =
    let at = count_again First p f.image in
    let symbols : length p.symbols ≡ 0 = let w = f.limits.symbols_within in omega arith in
    let names : length (bytes_of_symbols p.symbols) ≡ 0 = let w = f.names in omega arith in
    rw (at 0 (omega arith), at 1 (omega arith), at 2 (omega arith), at 3 (omega arith), symbols, names) refl
header_again Second p f =
    let at = count_again Second p f.image in
    rw (at 0 (omega arith), at 1 (omega arith), at 2 (omega arith), at 3 (omega arith), at 4 (omega arith), at 5 (omega arith)) refl

past_header : (version : Version) (p : ImageSeen) → drop (head_length version) (bytes_in version p) ≡ list_bytes p
unfolding bytes_in
past_header First p = past_list u32_of bytes_of_u32 4 (2 ^ 32) (counts_in First p) (list_bytes p) u32_spells
past_header Second p = past_list u32_of bytes_of_u32 4 (2 ^ 32) (counts_in Second p) (list_bytes p) u32_spells

-- the place of a symbol fits 32 bits
word_limit : (p : ImageSeen) (r : Region) → IsImage p → words_in (sizes_of p) r < 2 ^ 32
word_limit p regions.Code i = omega arith
word_limit p regions.Volatile i = omega arith
word_limit p regions.Persistent i = omega arith

small_place : (p : ImageSeen) → IsImage p → (k : ℕ) (d : SymbolSeen) → k < length p.symbols → (get_or p.symbols k d).place < 2 ^ 32
small_place p i k d lt = let within = i.symbols.places k d lt in let limit = word_limit p (get_or p.symbols k d).region i in omega arith

all_again : (p : ImageSeen) → IsImage p → spelt_symbols (length p.symbols) (bytes_of_symbols p.symbols) ≡ (p.symbols, [])
all_again p i = symbols_again p.symbols (small_place p i) (λ k d lt. i.symbols.labels k d lt)

symbols_there : (version : Version) (p : ImageSeen) → symbols_at (header version p) (bytes_in version p) ≡ bytes_of_symbols p.symbols
symbols_there version p =
    let persistent = bytes_of_u64s p.persistent ++ bytes_of_symbols p.symbols in
    let volatile = bytes_of_u64s p.volatile ++ persistent in
    let code = bytes_of_u32s p.code ++ volatile in
    rw (
      past_header version p,
      past_list u32_of bytes_of_u32 4 (2 ^ 32) p.entries code u32_spells,
      past_list u32_of bytes_of_u32 4 (2 ^ 32) p.code volatile u32_spells,
      past_list u64_of bytes_of_u64 8 (2 ^ 64) p.volatile persistent u64_spells,
      past_list u64_of bytes_of_u64 8 (2 ^ 64) p.persistent (bytes_of_symbols p.symbols) u64_spells,
    )
    refl

parts_again : (version : Version) (p : ImageSeen) → IsImage p → parts_at (header version p) (bytes_in version p) ≡ p
parts_again version p i =
    let persistent = bytes_of_u64s p.persistent ++ bytes_of_symbols p.symbols in
    let volatile = bytes_of_u64s p.volatile ++ persistent in
    let code = bytes_of_u32s p.code ++ volatile in
    rw (
      symbols_there version p,
      past_header version p,
      past_list u32_of bytes_of_u32 4 (2 ^ 32) p.entries code u32_spells,
      past_list u32_of bytes_of_u32 4 (2 ^ 32) p.code volatile u32_spells,
      past_list u64_of bytes_of_u64 8 (2 ^ 64) p.volatile persistent u64_spells,
      list_again u32_of bytes_of_u32 4 (2 ^ 32) p.entries code u32_spells i.entry_numbers,
      list_again u32_of bytes_of_u32 4 (2 ^ 32) p.code volatile u32_spells i.code_numbers,
      list_again u64_of bytes_of_u64 8 (2 ^ 64) p.volatile persistent u64_spells i.volatile_numbers,
      list_again u64_of bytes_of_u64 8 (2 ^ 64) p.persistent (bytes_of_symbols p.symbols) u64_spells i.persistent_numbers,
      all_again p i,
    )
    refl

whole_again : (version : Version) (p : ImageSeen) → IsImage p → is_whole (length p.symbols) (spelt_symbols (length p.symbols) (symbols_at (header version p) (bytes_in version p))) ≡ true
whole_again version p i = let same : (length p.symbols == length p.symbols) ≡ true = grind (arith, nat_tests) in rw (symbols_there version p, all_again p i, same) refl

header_ok : (version : Version) (p : ImageSeen) → Fits version p → header_within (header version p) ≡ Ok (header version p)
unfolding header_within
header_ok version p f = rw (limits_ok version _ _ _ _ _ f.limits, within_ok version Names _ f.names) refl

whole_ok : (p : ImageSeen) → IsImage p → whole_image p true ≡ Ok p
unfolding whole_image
whole_ok p i = rw (kept_ok p i) refl

bytes_ok : (need : ℕ) (bytes : List ℕ) → need ≤ length bytes → has_bytes need bytes ≡ Ok tt
bytes_ok need bytes le = grind (arith, nat_tests)

head_long : (version : Version) → 24 ≤ head_length version
head_long First = omega arith
head_long Second = omega arith

version_ok : (version : Version) (bytes : List ℕ) → 24 ≤ length bytes → take 8 bytes ≡ magic version → version_of bytes ≡ Ok version
unfolding version_of
version_ok First bytes le m = rw (bytes_ok 24 bytes le, m) refl
version_ok Second bytes le m = rw (bytes_ok 24 bytes le, m) refl

image_ok : (version : Version) (bytes : List ℕ) (p : ImageSeen) → Fits version p → length bytes ≡ file_length (header version p) → take 8 bytes ≡ magic version → header_at version bytes ≡ header version p → parts_image (header version p) bytes ≡ Ok p → image_of bytes ≡ Ok p
unfolding image_of header_of
image_ok version bytes p f l m h q =
    let whole : head_length version ≤ length bytes = omega (arith, l) in
    let named : version_of bytes ≡ Ok version = version_ok version bytes (omega (arith, head_long version, whole)) m in
    let limits : header_within (header_at version bytes) ≡ Ok (header version p) = subst (λ (x : Header). header_within x ≡ Ok (header version p)) (sym h) (header_ok version p f) in
    let long : has_length (file_length (header version p)) (length bytes) ≡ Ok tt = rw l (length_ok (file_length (header version p))) in
    rw (named, bytes_ok (head_length version) bytes whole, limits, long) q

magic_first : (version : Version) (p : ImageSeen) → take 8 (bytes_in version p) ≡ magic version
unfolding bytes_in
magic_first First p = refl
magic_first Second p = refl

fitting_again : (version : Version) (p : ImageSeen) → Fits version p → image_of (bytes_in version p) ≡ Ok p
fitting_again version p f =
    image_ok version (bytes_in version p) p f (length-image version p) (magic_first version p) (header_again version p f)
    (ap (λ (b : Bool). whole_image (parts_at (header version p) (bytes_in version p)) b) (whole_again version p f.image) ∙ ap (λ (q : ImageSeen). whole_image q true) (parts_again version p f.image) ∙ whole_ok p f.image)

pub image_again : (p : ImageSeen) → IsImage p → image_of (image_bytes p) ≡ Ok p
image_again p i = fitting_again Second p (fits_second p i)

-- each spelling of an image is read as it
pub spelling_again : (bytes : List ℕ) (p : ImageSeen) → IsImage p → Spells bytes p → image_of bytes ≡ Ok p
spelling_again bytes p i (inl first) = ap image_of first.1 ∙ fitting_again First p (fits_first p i first.0)
spelling_again bytes p i (inr second) = ap image_of second ∙ image_again p i

-- what a sequence of steps that is Ok did
did : {A B : Type 0} (r : Result A ImageFault) (f : A → Result B ImageFault) (x : B) → (r >>= f) ≡ Ok x → (y : A) × (r ≡ Ok y) × (f y ≡ Ok x)
did (Ok y) f x e = (y, refl, e)
did (Err d) f x e = absurd cc

has_so_many : (need : ℕ) (bytes : List ℕ) → has_bytes need bytes ≡ Ok tt → need ≤ length bytes
has_so_many need bytes e = grind (arith, nat_tests)

passes : {A : Type 0} (b : Bool) (x y : A) (d : ImageFault) → cond {A = Result A ImageFault} b (Ok x) (Err d) ≡ Ok y → (b ≡ true) × (x ≡ y)
passes true x y d e = (refl, cc)
passes false x y d e = absurd cc

was_within : (version : Version) (what : Quantity) (n : ℕ) (x : Unit {0}) → limit_check version what n ≡ Ok x → IsWithinBy version what n
was_within version what n x e =
    let passed : is_within_by version what n ≡ true = (passes (is_within_by version what n) tt x (Limit what n) e).0 in
    (grind (arith, nat_tests, passed), grind (arith, nat_tests, passed))

-- the limits that a header kept
limits_kept : (h x : Header) → header_within h ≡ Ok x → IsWithinLimits h.version h.cores h.code h.volatile h.persistent h.symbols
unfolding header_within within_limits
limits_kept h x e =
    let all = did (within_limits h.version h.cores h.code h.volatile h.persistent h.symbols) (λ a. limit_check h.version Names h.names >>= λ b. Ok h) x e in
    let cores = did (limit_check h.version Cores h.cores) (λ a. limit_check h.version Code h.code >>= λ b. limit_check h.version Volatile h.volatile >>= λ c. limit_check h.version Persistent h.persistent >>= λ d. limit_check h.version Symbols h.symbols) all.0 all.1 in
    let code = did (limit_check h.version Code h.code) (λ b. limit_check h.version Volatile h.volatile >>= λ c. limit_check h.version Persistent h.persistent >>= λ d. limit_check h.version Symbols h.symbols) all.0 cores.2 in
    let volatile = did (limit_check h.version Volatile h.volatile) (λ c. limit_check h.version Persistent h.persistent >>= λ d. limit_check h.version Symbols h.symbols) all.0 code.2 in
    let persistent = did (limit_check h.version Persistent h.persistent) (λ d. limit_check h.version Symbols h.symbols) all.0 volatile.2 in
    record {
      cores_within = was_within h.version Cores h.cores cores.0 cores.1;
      code_within = was_within h.version Code h.code code.0 code.1;
      volatile_within = was_within h.version Volatile h.volatile volatile.0 volatile.1;
      persistent_within = was_within h.version Persistent h.persistent persistent.0 persistent.1;
      symbols_within = was_within h.version Symbols h.symbols all.0 persistent.2;
    }

is_long : (need have : ℕ) → has_length need have ≡ Ok tt → have ≡ need
is_long need have e = grind (arith, nat_tests)

-- the version that the first bytes name
named_first : (bytes : List ℕ) (first second : Bool) (version : Version) → bytes_eq (take 8 bytes) (magic First) ≡ first → bytes_eq (take 8 bytes) (magic Second) ≡ second
    → cond {A = Result Version ImageFault} first (Ok First) (cond second (Ok Second) (Err Magic)) ≡ Ok version → take 8 bytes ≡ magic version
named_first bytes true second version f g e = let same : First ≡ version = cc in subst (λ (v : Version). take 8 bytes ≡ magic v) same ((bytes_eq-Decides (take 8 bytes) (magic First)).0 f)
named_first bytes false true version f g e = let same : Second ≡ version = cc in subst (λ (v : Version). take 8 bytes ≡ magic v) same ((bytes_eq-Decides (take 8 bytes) (magic Second)).0 g)
named_first bytes false false version f g e = absurd cc

version_is : (bytes : List ℕ) (version : Version) → version_of bytes ≡ Ok version → take 8 bytes ≡ magic version
unfolding version_of
version_is bytes version e =
    let long_did = did (has_bytes 24 bytes) (λ a. named_version bytes) version e in
    named_first bytes _ _ version refl refl long_did.2

same_header : (h x : Header) → header_within h ≡ Ok x → h ≡ x
unfolding header_within
same_header h x e =
    let limits_did = did (within_limits h.version h.cores h.code h.volatile h.persistent h.symbols) (λ a. limit_check h.version Names h.names >>= λ b. Ok h) x e in
    let names_did = did (limit_check h.version Names h.names) (λ b. Ok h) x limits_did.2 in
    let same : h ≡ x = let r = names_did.2 in cc in
    same

same_kept : (p q : ImageSeen) → kept_image p ≡ Ok q → p ≡ q
unfolding kept_image
same_kept p q e =
    let entries_did = did (entries_exist p) (λ a. symbols_stand p >>= λ b. Ok p) q e in
    let symbols_did = did (symbols_stand p) (λ b. Ok p) q entries_did.2 in
    let same : p ≡ q = let r = symbols_did.2 in cc in
    same

same_whole : (p q : ImageSeen) (whole : Bool) → whole_image p whole ≡ Ok q → (whole ≡ true) × (p ≡ q)
unfolding whole_image
same_whole p q whole e =
    let kept_did = did (kept_image p) (λ (r : ImageSeen). cond whole (Ok r) (Err (Symbol (length p.symbols)))) q e in
    let all = passes whole kept_did.0 q (Symbol (length p.symbols)) kept_did.2 in
    (all.0, same_kept p kept_did.0 kept_did.1 ∙ all.1)

-- what is so of the bytes of an image
record IsSpelling (version : Version) (bytes : List ℕ) (p : ImageSeen) : Type 0 where
  whole : head_length version ≤ length bytes
  magic_is : take 8 bytes ≡ magic version
  long : length bytes ≡ file_length (header_at version bytes)
  full : is_whole (header_at version bytes).symbols (spelt_symbols (header_at version bytes).symbols (symbols_at (header_at version bytes) bytes)) ≡ true
  limits : IsWithinLimits version (header_at version bytes).cores (header_at version bytes).code (header_at version bytes).volatile (header_at version bytes).persistent (header_at version bytes).symbols
  same : parts_at (header_at version bytes) bytes ≡ p

header_limits : (version : Version) (bytes : List ℕ) (x : Header) → header_within (header_at version bytes) ≡ Ok x
    → IsWithinLimits version (header_at version bytes).cores (header_at version bytes).code (header_at version bytes).volatile (header_at version bytes).persistent (header_at version bytes).symbols
header_limits First bytes x e = limits_kept (header_at First bytes) x e
header_limits Second bytes x e = limits_kept (header_at Second bytes) x e

is_spelling : (bytes : List ℕ) (p : ImageSeen) → image_of bytes ≡ Ok p → (version : Version) × IsSpelling version bytes p
unfolding image_of header_of
is_spelling bytes p e =
    let header_did = did (header_of bytes) (λ h. has_length (file_length h) (length bytes) >>= λ a. parts_image h bytes) p e in
    let length_did = did (has_length (file_length header_did.0) (length bytes)) (λ a. parts_image header_did.0 bytes) p header_did.2 in
    let version_did = did (version_of bytes) (λ version. has_bytes (head_length version) bytes >>= λ a. header_within (header_at version bytes)) header_did.0 header_did.1 in
    let version = version_did.0 in
    let whole_did = did (has_bytes (head_length version) bytes) (λ a. header_within (header_at version bytes)) header_did.0 version_did.2 in
    let same : header_at version bytes ≡ header_did.0 = same_header (header_at version bytes) header_did.0 whole_did.2 in
    let parts : parts_image (header_at version bytes) bytes ≡ Ok p = subst (λ (h : Header). parts_image h bytes ≡ Ok p) (sym same) length_did.2 in
    let all = same_whole (parts_at (header_at version bytes) bytes) p (is_whole (header_at version bytes).symbols (spelt_symbols (header_at version bytes).symbols (symbols_at (header_at version bytes) bytes))) parts in (
      version,
      record {
        whole = has_so_many (head_length version) bytes whole_did.1;
        magic_is = version_is bytes version version_did.1;
        long = subst (λ (h : Header). length bytes ≡ file_length h) (sym same) (is_long _ _ length_did.1);
        full = all.0;
        limits = header_limits version bytes header_did.0 whole_did.2;
        same = all.1;
      },
    )

-- So many symbols were spelt, and nothing is left.
both_true : (a b : Bool) → (a && b) ≡ true → (a ≡ true) × (b ≡ true)
both_true true true e = (refl, refl)
both_true true false e = absurd cc
both_true false b e = absurd cc

is_number : (m n : ℕ) → (m == n) ≡ true → m ≡ n
is_number m n e = grind (arith, nat_tests)

no_bytes : (bytes : List ℕ) → length bytes ≡ 0 → bytes ≡ []
no_bytes [] e = refl
no_bytes (b ∷ bytes) e = absurd (omega arith)

full_count : (count : ℕ) (spelt : List SymbolSeen × List ℕ) → is_whole count spelt ≡ true → length spelt.0 ≡ count
full_count count spelt e = is_number (length spelt.0) count (both_true (length spelt.0 == count) (length spelt.1 == 0) e).0

full_part : (count : ℕ) (part : List ℕ) → AreBytes part → is_whole count (spelt_symbols count part) ≡ true → bytes_of_symbols (spelt_symbols count part).0 ≡ part
full_part count part all e =
    let spelt = spelt_symbols count part in
    let none : spelt.1 ≡ [] = no_bytes spelt.1 (is_number (length spelt.1) 0 (both_true (length spelt.0 == count) (length spelt.1 == 0) e).1) in
    sym (append-nil (bytes_of_symbols spelt.0)) ∙ ap (λ (l : List ℕ). bytes_of_symbols spelt.0 ++ l) (sym none) ∙ symbols_spelt count part all

-- the lists of a file, as long as its header says
lists_spelt : (h : Header) (bytes : List ℕ) → AreBytes bytes → length bytes ≡ file_length h → is_whole h.symbols (spelt_symbols h.symbols (symbols_at h bytes)) ≡ true → list_bytes (parts_at h bytes) ≡ entries_at h bytes
lists_spelt h bytes all e full =
    let of_entries = bytes_in_drop (head_length h.version) bytes all in
    let of_code = bytes_in_drop (4 * h.cores) (entries_at h bytes) of_entries in
    let of_volatile = bytes_in_drop (4 * h.code) (code_at h bytes) of_code in
    let of_persistent = bytes_in_drop (8 * h.volatile) (volatile_at h bytes) of_volatile in
    let of_symbols = bytes_in_drop (8 * h.persistent) (persistent_at h bytes) of_persistent in
    let spelt_entries : bytes_of_u32s (u32s h.cores (entries_at h bytes)) ++ code_at h bytes ≡ entries_at h bytes = list_spelt u32_of bytes_of_u32 4 (2 ^ 32) h.cores (entries_at h bytes) u32_spells of_entries (simp length-drop (omega arith)) in
    let spelt_code : bytes_of_u32s (u32s h.code (code_at h bytes)) ++ volatile_at h bytes ≡ code_at h bytes = list_spelt u32_of bytes_of_u32 4 (2 ^ 32) h.code (code_at h bytes) u32_spells of_code (simp length-drop (omega arith)) in
    let spelt_volatile : bytes_of_u64s (u64s h.volatile (volatile_at h bytes)) ++ persistent_at h bytes ≡ volatile_at h bytes = list_spelt u64_of bytes_of_u64 8 (2 ^ 64) h.volatile (volatile_at h bytes) u64_spells of_volatile (simp length-drop (omega arith)) in
    let spelt_persistent : bytes_of_u64s (u64s h.persistent (persistent_at h bytes)) ++ symbols_at h bytes ≡ persistent_at h bytes = list_spelt u64_of bytes_of_u64 8 (2 ^ 64) h.persistent (persistent_at h bytes) u64_spells of_persistent (simp length-drop (omega arith)) in
    let spelt_symbols_are : bytes_of_symbols (spelt_symbols h.symbols (symbols_at h bytes)).0 ≡ symbols_at h bytes = full_part h.symbols (symbols_at h bytes) of_symbols full in
    rw (spelt_symbols_are, spelt_persistent, spelt_volatile, spelt_code, spelt_entries) refl

names_long : (h : Header) (bytes : List ℕ) → length bytes ≡ file_length h → length (symbols_at h bytes) ≡ h.names
names_long h bytes e = simp length-drop (omega arith)

header_spelt : (version : Version) (bytes : List ℕ) (p : ImageSeen) → AreBytes bytes → IsSpelling version bytes p → bytes_of_u32s (counts_in version p) ++ drop (head_length version) bytes ≡ drop 8 bytes
unfolding numbers
header_spelt First bytes p all i =
    let s = list_spelt u32_of bytes_of_u32 4 (2 ^ 32) 4 (drop 8 bytes) u32_spells (bytes_in_drop 8 bytes all) (simp length-drop (let w = i.whole in omega arith)) in
    rw (← i.same) (simp length-numbers (simp drop-drop at s))
header_spelt Second bytes p all i =
    let h = header_at Second bytes in
    let count = full_count h.symbols (spelt_symbols h.symbols (symbols_at h bytes)) i.full in
    let of_symbols = bytes_in_drop (8 * h.persistent) (persistent_at h bytes) (bytes_in_drop (8 * h.volatile) (volatile_at h bytes) (bytes_in_drop (4 * h.code) (code_at h bytes) (bytes_in_drop (4 * h.cores) (entries_at h bytes) (bytes_in_drop 32 bytes all)))) in
    let names : length (bytes_of_symbols (spelt_symbols h.symbols (symbols_at h bytes)).0) ≡ h.names = ap length (full_part h.symbols (symbols_at h bytes) of_symbols i.full) ∙ names_long h bytes i.long in
    let s = list_spelt u32_of bytes_of_u32 4 (2 ^ 32) 6 (drop 8 bytes) u32_spells (bytes_in_drop 8 bytes all) (simp length-drop (let w = i.whole in omega arith)) in
    rw (← i.same, count, names) (simp length-numbers (simp drop-drop at s))

bytes_are : (version : Version) (bytes : List ℕ) (p : ImageSeen) → AreBytes bytes → IsSpelling version bytes p → bytes ≡ bytes_in version p
unfolding bytes_in
bytes_are version bytes p all i =
    let h = header_at version bytes in
    let lists : list_bytes p ≡ drop (head_length version) bytes = lists_are version bytes p all i in
    sym (take-append-drop 8 bytes) ∙ ap (λ (s : List ℕ). s ++ drop 8 bytes) i.magic_is ∙ ap (λ (s : List ℕ). magic version ++ s) (sym (header_spelt version bytes p all i) ∙ ap (λ (s : List ℕ). bytes_of_u32s (counts_in version p) ++ s) (sym lists)) ∙ sym (append_assoc (magic version) (bytes_of_u32s (counts_in version p)) (list_bytes p))
  where
    lists_are : (version : Version) (bytes : List ℕ) (p : ImageSeen) → AreBytes bytes → IsSpelling version bytes p → list_bytes p ≡ drop (head_length version) bytes
    lists_are First bytes p all i = rw (← i.same) (lists_spelt (header_at First bytes) bytes all i.long i.full)
    lists_are Second bytes p all i = rw (← i.same) (lists_spelt (header_at Second bytes) bytes all i.long i.full)

first_fits : (bytes : List ℕ) (p : ImageSeen) → IsSpelling First bytes p → FitsFirst p
unfolding spelt_symbols
first_fits bytes p i = record {
  plain = rw (← i.same) refl;
  limits = rw (← i.same) (simp length-numbers i.limits);
}

in_version : (version : Version) (bytes : List ℕ) (p : ImageSeen) → AreBytes bytes → IsSpelling version bytes p → Spells bytes p
in_version First bytes p all i = inl (first_fits bytes p i, bytes_are First bytes p all i)
in_version Second bytes p all i = inr (bytes_are Second bytes p all i)

pub image_spelt : (bytes : List ℕ) (p : ImageSeen) → AreBytes bytes → image_of bytes ≡ Ok p → Spells bytes p
image_spelt bytes p all e = let i = is_spelling bytes p e in in_version i.0 bytes p all i.1
