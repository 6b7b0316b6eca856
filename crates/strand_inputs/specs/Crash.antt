-- A crash image: the words that the memory holds after a crash, eight bytes each, the low byte first.
use Rattle.std.specs.Prelude.{ℕ, ◌*◌, ◌==◌, List, length, Result, Ok, Err, if◌then◌else◌}
use Rattle.strand_base.specs.LittleEndian.{u64s, bytes_of_u64s}
use Rattle.strand_inputs.specs.declared.fault.InputFault.{InputFault}
use Rattle.strand_inputs.specs.declared.fault.InputFault.TheVariants.{CrashLength}

-- the crash image of so many words that the bytes are, unless their number is another
unfoldable pub crash_words_of : ℕ → List ℕ → Result (List ℕ) InputFault
crash_words_of words bytes = if length bytes == 8 * words then Ok (u64s words bytes) else Err (CrashLength (8 * words) (length bytes))

-- the one spelling of a crash image
abbrev pub crash_bytes : List ℕ → List ℕ
crash_bytes words = bytes_of_u64s words
