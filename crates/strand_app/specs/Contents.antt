-- What one file says, by its rule, or why its content is refused.
use Rattle.std.specs.Prelude.{ℕ, List, length, nat_lt, Ok, Err, if◌then◌else◌}
use Rattle.std.specs.declared.result.Result.{Result}
use Rattle.strand_app.specs.declared.file_sizes.TheConstants.{MOST_FILE_BYTES, MOST_IMAGE_BYTES, MOST_MACHINE_BYTES, MOST_CRASH_BYTES}
use Rattle.strand_asm.specs.Assemble.{assembled}
use Rattle.strand_image.specs.Image.{image_of}
use Rattle.strand_image.specs.ImageSeen.{ImageSeen}
use Rattle.strand_inputs.specs.Crash.{crash_words_of}
use Rattle.strand_inputs.specs.Machine.{machine}
use Rattle.strand_inputs.specs.Schedule.{schedule_of}
use Rattle.strand_inputs.specs.Settings.{Settings}
use Rattle.strand_inputs.specs.declared.step.Step.{Step}
use Rattle.strand_refute.specs.CertificateSeen.{CertificateSeen}
use Rattle.strand_refute.specs.Grammar.{certificate_of}
use Rattle.strand_refute.specs.declared.limits.TheConstants.{MOST_CERTIFICATE_BYTES}
use Rattle.strand_report.specs.declared.refusal.ContentFault.{ContentFault}
use Rattle.strand_report.specs.declared.refusal.ContentFault.TheVariants.{TooLong, Text, Image, Input}

abbrev pub refused_as : {V E : Type 0} → (E → ContentFault) → Result V E → Result V ContentFault
refused_as kind (Ok value) = Ok value
refused_as kind (Err fault) = Err (kind fault)

-- a file of at most so many bytes
abbrev pub length_limited : {V E : Type 0} → ℕ → (E → ContentFault) → List ℕ → Result V E → Result V ContentFault
length_limited most kind bytes said = if nat_lt most (length bytes) then Err (TooLong most) else refused_as kind said

-- an assembler text: the image that it gives
unfoldable pub text_in : List ℕ → Result ImageSeen ContentFault
text_in bytes = length_limited MOST_FILE_BYTES Text bytes (assembled bytes)

unfoldable pub image_in : List ℕ → Result ImageSeen ContentFault
image_in bytes = length_limited MOST_IMAGE_BYTES Image bytes (image_of bytes)

unfoldable pub machine_in : List ℕ → Result Settings ContentFault
machine_in bytes = length_limited MOST_MACHINE_BYTES Input bytes (machine bytes)

-- a schedule: its steps are of the image's cores and the machine's buffers
unfoldable pub schedule_in : Settings → ImageSeen → List ℕ → Result (List Step) ContentFault
schedule_in config image bytes = length_limited MOST_FILE_BYTES Input bytes (schedule_of (length image.entries) config.buffers bytes)

-- a crash image, of as many words as the image has persistent words
unfoldable pub crash_in : ImageSeen → List ℕ → Result (List ℕ) ContentFault
crash_in image bytes = length_limited MOST_CRASH_BYTES Input bytes (crash_words_of (length image.persistent) bytes)

unfoldable pub certificate_in : List ℕ → Result CertificateSeen ContentFault
certificate_in bytes = length_limited MOST_CERTIFICATE_BYTES Input bytes (certificate_of bytes)
