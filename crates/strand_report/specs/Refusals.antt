-- The lines that say why what a command was given was refused, and which of these reasons are limits. Want of memory
-- is none: it has no line.
use Rattle.std.specs.Prelude.{ℕ, Bool, true, false, List, [], ◌∷◌}
use Rattle.std.specs.Fmt.{decimal, signed_decimal}
use lib.Chars.{codes}
use Rattle.strand_base.specs.Text.{line_text}
use Rattle.strand_asm.specs.declared.fault.AsmFault.{AsmFault}
use Rattle.strand_asm.specs.declared.fault.AsmFault.TheVariants as text
use Rattle.strand_asm_lines.specs.declared.fault.LineKind.{LineKind}
use Rattle.strand_asm_lines.specs.declared.fault.LineKind.TheVariants.{BadToken, LongName, BadNumber, BadRegister, UnknownName, MissingOperand, ExtraOperand}
use Rattle.strand_image.specs.declared.fault.ImageFault.{ImageFault}
use Rattle.strand_image.specs.declared.fault.ImageFault.TheVariants as image
use Rattle.strand_image.specs.declared.quantity.Quantity.{Quantity}
use Rattle.strand_image.specs.declared.quantity.Quantity.TheVariants.{Cores, Code, Volatile, Persistent, Symbols, Names}
use Rattle.strand_inputs.specs.Machine.{key_word}
use Rattle.strand_inputs.specs.declared.fault.InputFault.{InputFault}
use Rattle.strand_inputs.specs.declared.fault.InputFault.TheVariants as input
use Rattle.strand_report.specs.declared.refusal.ContentFault.{ContentFault}
use Rattle.strand_report.specs.declared.refusal.ContentFault.TheVariants.{TooLong, Text, Image, Input}
use Rattle.strand_report.specs.declared.refusal.Refusal.{Refusal}
use Rattle.strand_report.specs.declared.refusal.Refusal.TheVariants.{File, Stop, Bank, Size}

-- "fault limit K ..": something of file K is outside its limits
abbrev pub limit_line : ℕ → List (List ℕ) → List ℕ
limit_line k words = line_text (codes "fault" ∷ codes "limit" ∷ decimal k ∷ words)

-- "fault input K ..": file K is not of its form
abbrev pub input_line : ℕ → List (List ℕ) → List ℕ
input_line k words = line_text (codes "fault" ∷ codes "input" ∷ decimal k ∷ words)

abbrev pub quantity_word : Quantity → List ℕ
quantity_word Cores = codes "cores"
quantity_word Code = codes "code"
quantity_word Volatile = codes "volatile"
quantity_word Persistent = codes "persistent"
quantity_word Symbols = codes "symbols"
quantity_word Names = codes "names"

abbrev pub kind_word : LineKind → List ℕ
kind_word BadToken = codes "badtoken"
kind_word LongName = codes "longname"
kind_word BadNumber = codes "badnumber"
kind_word BadRegister = codes "badregister"
kind_word UnknownName = codes "unknownname"
kind_word MissingOperand = codes "missingoperand"
kind_word ExtraOperand = codes "extraoperand"

-- of a machine file, a schedule or a crash image
abbrev pub input_fault_line : ℕ → InputFault → List ℕ
input_fault_line k (input.BadLine line) = input_line k (codes "badline" ∷ decimal line ∷ [])
input_fault_line k (input.Limit line value) =
    limit_line k (codes "line" ∷ decimal line ∷ decimal value ∷ [])
input_fault_line k (input.Repeated line first) =
    input_line k (codes "repeated" ∷ decimal line ∷ decimal first ∷ [])
input_fault_line k (input.Missing key) = input_line k (codes "missing" ∷ key_word key ∷ [])
input_fault_line k (input.CrashLength need have) =
    input_line k (codes "crashlength" ∷ decimal need ∷ decimal have ∷ [])
input_fault_line k input.OutOfMemory = []

-- of an image
abbrev pub image_fault_line : ℕ → ImageFault → List ℕ
image_fault_line k image.Magic = input_line k (codes "magic" ∷ [])
image_fault_line k (image.Short need have) =
    input_line k (codes "short" ∷ decimal need ∷ decimal have ∷ [])
image_fault_line k (image.Long need have) =
    input_line k (codes "long" ∷ decimal need ∷ decimal have ∷ [])
image_fault_line k (image.Limit field value) =
    limit_line k (quantity_word field ∷ decimal value ∷ [])
image_fault_line k (image.Entry core value) =
    input_line k (codes "entry" ∷ decimal core ∷ decimal value ∷ [])
image_fault_line k (image.Symbol index) = input_line k (codes "symbol" ∷ decimal index ∷ [])
image_fault_line k image.OutOfMemory = []

-- of an assembler text
abbrev pub text_fault_line : ℕ → AsmFault → List ℕ
text_fault_line k (text.Line fault) =
    input_line k (codes "line" ∷ decimal fault.line ∷ kind_word fault.kind ∷ [])
text_fault_line k (text.Duplicate line first) =
    input_line k (codes "duplicate" ∷ decimal line ∷ decimal first ∷ [])
text_fault_line k (text.Undefined line) = input_line k (codes "undefined" ∷ decimal line ∷ [])
text_fault_line k (text.Range line value) =
    input_line k (codes "range" ∷ decimal line ∷ signed_decimal value ∷ [])
text_fault_line k (text.Limit what number) = limit_line k (quantity_word what ∷ decimal number ∷ [])
text_fault_line k text.OutOfMemory = []

abbrev pub content_line : ℕ → ContentFault → List ℕ
content_line k (TooLong limit) = limit_line k (codes "bytes" ∷ decimal limit ∷ [])
content_line k (Text fault) = text_fault_line k fault
content_line k (Image fault) = image_fault_line k fault
content_line k (Input fault) = input_fault_line k fault

-- of file K, counted from 1 in the order in which a command names its files; "fault stop STOP STEPS", where the
-- schedule has fewer steps; "fault bank NEED HAVE", in words; "fault limit size N", of a schedule that is generated
abbrev pub refusal_line : Refusal → List ℕ
refusal_line (File k fault) = content_line k fault
refusal_line (Stop past) =
    line_text (codes "fault" ∷ codes "stop" ∷ decimal past.stop ∷ decimal past.steps ∷ [])
refusal_line (Bank need have) =
    line_text (codes "fault" ∷ codes "bank" ∷ decimal need ∷ decimal have ∷ [])
refusal_line (Size size) =
    line_text (codes "fault" ∷ codes "limit" ∷ codes "size" ∷ decimal size ∷ [])

-- whether something is outside its limits: the bytes of a file, a number in it, the words of the bank, or a size
abbrev pub content_is_limit : ContentFault → Bool
content_is_limit (TooLong limit) = true
content_is_limit (Text (text.Limit what number)) = true
content_is_limit (Image (image.Limit field value)) = true
content_is_limit (Input (input.Limit line value)) = true
content_is_limit _ = false

abbrev pub is_limit : Refusal → Bool
is_limit (File k fault) = content_is_limit fault
is_limit (Stop past) = false
is_limit (Bank need have) = true
is_limit (Size size) = true
