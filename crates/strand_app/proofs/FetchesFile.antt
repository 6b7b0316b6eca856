-- Serves clause runs of strand_main, for each file: what it says, from the bytes that a fetch gave.
use Rattle.std.proofs.Common.{◌≡◌, ℕ, ◌*◌, ◌<◌, ◌≤◌, Bool, true, false, List, length, refl, sym, ap, subst, ◌∙◌}
use Rattle.std.specs.Prelude.{nat_lt, ◌==◌, Ok, Err, IsErrAnd, if◌then◌else◌}
use Rattle.std.specs.declared.alloc.Global.{Global}
use Rattle.std.specs.declared.result.Result.{Result}
use Rattle.std.specs.declared.vec.Vec.{Vec}
use Rattle.std.proofs.lemmas.Bool.{lt-ltb, le-ltb}
use Rattle.strand_app.specs.declared.file_sizes.TheConstants.{MOST_FILE_BYTES, MOST_IMAGE_BYTES, MOST_MACHINE_BYTES, MOST_CRASH_BYTES}
use Rattle.strand_asm.specs.Layout.{GivesAssembly}
use Rattle.strand_asm.specs.declared.fault.AsmFault.{AsmFault}
use Rattle.strand_asm.specs.declared.fault.AsmFault.TheVariants as asm
use Rattle.strand_base.specs.FilesSeen.{FilesSeen}
use Rattle.strand_base.specs.LittleEndian.{u64_of, u64s}
use Rattle.strand_base.proofs.LittleEndian.{length-numbers}
use Rattle.strand_image.specs.Image.{GivesImage}
use Rattle.strand_image.specs.ImageSeen.{ImageSeen}
use Rattle.strand_image.specs.declared.fault.ImageFault.{ImageFault}
use Rattle.strand_image.specs.declared.fault.ImageFault.TheVariants as image
use Rattle.strand_inputs.specs.Crash.{crash_words_of}
use Rattle.strand_inputs.specs.Reading.{FailsInput}
use Rattle.strand_inputs.specs.Settings.{Settings}
use Rattle.strand_inputs.specs.declared.fault.InputFault.{InputFault}
use Rattle.strand_inputs.specs.declared.fault.InputFault.TheVariants as input
use Rattle.strand_refute.specs.declared.limits.TheConstants.{MOST_CERTIFICATE_BYTES}
use Rattle.strand_report.specs.declared.refusal.ContentFault.{ContentFault}
use Rattle.strand_report.specs.declared.refusal.ContentFault.TheVariants.{TooLong, Text, Image, Input}
use Rattle.strand_app.specs.declared.fetching.OpenFault.{OpenFault}
use Rattle.strand_app.specs.declared.fetching.OpenFault.TheVariants.{Fetch, Refused, OutOfMemory}
use Rattle.strand_app.specs.Contents.{refused_as, length_limited, text_in, image_in, machine_in, schedule_in, crash_in, certificate_in}
use Rattle.strand_app.specs.Fetching.{FetchesBytes, IsSaid, FetchesFile}
use Rattle.strand_app.specs.Opening.{open_fault}
use Rattle.strand_app.specs.Reads.{in_file}

module _ {V E : Type 0} (most : ℕ) (kind : E → ContentFault) (bytes : List ℕ) (said : Result V E) where
  -- within its limit, a file says what its reader finds
  pub short : length bytes ≤ most → length_limited most kind bytes said ≡ refused_as kind said
  short few = let test : nat_lt most (length bytes) ≡ false = le-ltb _ _ few in rw test refl

  pub long : most < length bytes → length_limited most kind bytes said ≡ Err (TooLong most)
  long many = let test : nat_lt most (length bytes) ≡ true = lt-ltb _ _ many in rw test refl

  pub found : (value : V) → length bytes ≤ most → said ≡ Ok value → length_limited most kind bytes said ≡ Ok value
  found value few is = short few ∙ ap (refused_as kind) is

  pub refused : (fault : E) → length bytes ≤ most → said ≡ Err fault → length_limited most kind bytes said ≡ Err (kind fault)
  refused fault few is = short few ∙ ap (refused_as kind) is

pub fails_of : {V : Type 0} (said : Result V InputFault) (fault : InputFault) → said ≡ Err fault → FailsInput fault said
fails_of said input.OutOfMemory is = tt
fails_of said fault is = is

-- what a reader's fault says of a file, unless it is want of memory
pub input_said : {V W : Type 0} (k : ℕ) (view : W → V) (most : ℕ) (bytes : List ℕ) (said : Result V InputFault) (fault : InputFault) → length bytes ≤ most → FailsInput fault said
    → IsSaid k view (length_limited most Input bytes said) (Err (open_fault k (Input fault)))
input_said k view most bytes said input.OutOfMemory few is = tt
input_said k view most bytes said fault few is = ap (in_file k) (refused most Input bytes said fault few is)

pub image_said : {V W : Type 0} (k : ℕ) (view : W → V) (most : ℕ) (bytes : List ℕ) (said : Result V ImageFault) (fault : ImageFault) → length bytes ≤ most → GivesImage (Err fault) said
    → IsSaid k view (length_limited most Image bytes said) (Err (open_fault k (Image fault)))
image_said k view most bytes said image.OutOfMemory few is = tt
image_said k view most bytes said fault few is = ap (in_file k) (refused most Image bytes said fault few (sym is))

pub text_said : {V W : Type 0} (k : ℕ) (view : W → V) (most : ℕ) (bytes : List ℕ) (said : Result V AsmFault) (fault : AsmFault) → length bytes ≤ most → GivesAssembly (Err fault) said
    → IsSaid k view (length_limited most Text bytes said) (Err (open_fault k (Text fault)))
text_said k view most bytes said asm.OutOfMemory few is = tt
text_said k view most bytes said fault few is = ap (in_file k) (refused most Text bytes said fault few is)

-- what holds of a fault holds where `?` hands it on
hands_on : {T E : Type 0} (Holds : Result T E → Type 0) (fault : E) (result : Result T E) → IsErrAnd result (λ e. e ≡ fault) → Holds (Err fault) → Holds result
hands_on Holds fault (Ok value) is holds = absurd is
hands_on Holds fault (Err e) is holds = subst (λ x. Holds (Err x)) (sym is) holds

module _ {V W : Type 0} (k : ℕ) (rule : List ℕ → Result V ContentFault) (view : W → V) (name : List ℕ) (limit : ℕ) (before after : FilesSeen) where
  -- the file was not fetched, or was too long
  not_read : (fault : OpenFault) → ((content : List ℕ) → limit < length content → rule content ≡ Err (TooLong limit)) → FetchesBytes k name limit before after (Err fault)
      → FetchesFile k rule view name before after (Err fault)
  not_read (Fetch j) too_long fetches = fetches
  not_read OutOfMemory too_long fetches = fetches
  not_read (Refused x) too_long fetches =
      let is = fetches.1 in
      (fetches.0, record { content = is.content; gives = is.gives; is = ap (in_file k) (too_long is.content is.long) ∙ ap Err (sym is.is) })

  pub not_fetched : (fault : OpenFault) (result : Result W OpenFault) → IsErrAnd result (λ e. e ≡ fault) → ((content : List ℕ) → limit < length content → rule content ≡ Err (TooLong limit)) → FetchesBytes k name limit before after (Err fault)
      → FetchesFile k rule view name before after result
  not_fetched fault result is too_long fetches = hands_on (FetchesFile k rule view name before after) fault result is (not_read fault too_long fetches)

  -- it was read
  pub read : (bytes : Vec ℕ Global) (result : Result W OpenFault) → FetchesBytes k name limit before after (Ok bytes) → IsSaid k view (rule bytes.items) result → FetchesFile k rule view name before after result
  read bytes (Ok value) fetches is = (fetches.0, record { content = bytes.items; gives = fetches.1.1; is = is })
  read bytes (Err (Refused x)) fetches is = (fetches.0, record { content = bytes.items; gives = fetches.1.1; is = is })
  read bytes (Err (Fetch j)) fetches is = absurd is
  read bytes (Err OutOfMemory) fetches is = (fetches.0, tt)

-- a file that is longer than its limit
pub text_long : (bytes : List ℕ) → MOST_FILE_BYTES < length bytes → text_in bytes ≡ Err (TooLong MOST_FILE_BYTES)
unfolding text_in
text_long bytes many = long MOST_FILE_BYTES Text bytes _ many

pub image_long : (bytes : List ℕ) → MOST_IMAGE_BYTES < length bytes → image_in bytes ≡ Err (TooLong MOST_IMAGE_BYTES)
unfolding image_in
image_long bytes many = long MOST_IMAGE_BYTES Image bytes _ many

pub machine_long : (bytes : List ℕ) → MOST_MACHINE_BYTES < length bytes → machine_in bytes ≡ Err (TooLong MOST_MACHINE_BYTES)
unfolding machine_in
machine_long bytes many = long MOST_MACHINE_BYTES Input bytes _ many

pub schedule_long : (g : Settings) (p : ImageSeen) (bytes : List ℕ) → MOST_FILE_BYTES < length bytes → schedule_in g p bytes ≡ Err (TooLong MOST_FILE_BYTES)
unfolding schedule_in
schedule_long g p bytes many = long MOST_FILE_BYTES Input bytes _ many

pub crash_long : (p : ImageSeen) (bytes : List ℕ) → MOST_CRASH_BYTES < length bytes → crash_in p bytes ≡ Err (TooLong MOST_CRASH_BYTES)
unfolding crash_in
crash_long p bytes many = long MOST_CRASH_BYTES Input bytes _ many

pub certificate_long : (bytes : List ℕ) → MOST_CERTIFICATE_BYTES < length bytes → certificate_in bytes ≡ Err (TooLong MOST_CERTIFICATE_BYTES)
unfolding certificate_in
certificate_long bytes many = long MOST_CERTIFICATE_BYTES Input bytes _ many

-- a crash image of so many words has so many
pub crash_words : (count : ℕ) (bytes words : List ℕ) → crash_words_of count bytes ≡ Ok words → length words ≡ count
unfolding crash_words_of
crash_words count bytes words e = go (length bytes == 8 * count) e
  where
    go : (b : Bool) → (if b then Ok (u64s count bytes) else Err (input.CrashLength (8 * count) (length bytes))) ≡ Ok words → length words ≡ count
    go true e = let same : u64s count bytes ≡ words = cc in rw (← same) (length-numbers u64_of 8 count bytes)
    go false e = cc
