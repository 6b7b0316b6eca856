-- A line of assembler text: its label and what stands behind it, or its first fault.
use Rattle.std.specs.Prelude.{◌≡◌, ℕ, ◌<◌, ℤ, pos, negsuc, ◌||◌, nat_lt, nat_le, if◌then◌else◌, List, [], ◌∷◌, length, Option, Some, None, Result, Ok, Err, IfSome, IsTrue}
use Rattle.std.specs.List.{before_first, list_all}
use Rattle.std.specs.Option.{option_map, option_and_then, ok_or}
use Rattle.std.specs.Str.{bytes_eq}
use lib.Chars.{codes}
use Rattle.strand_base.specs.declared.limits.TheConstants.{MOST_DATA, MOST_LABEL}
use Rattle.strand_base.specs.Text.{is_blank, words_of, content_of}
use Rattle.strand_asm_lines.specs.Bytes.{is_plain, pieces, from_first, after_blanks, lone, operand_texts, operand_at, some_empty}
use Rattle.strand_base.specs.Name.{is_name, is_label}
use Rattle.strand_asm_lines.specs.Token.{name_of, register_of, number_of, bracketed, offset_of}
use Rattle.strand_asm_lines.specs.Table.{form_of, mnemonic_of, due_count}
use Rattle.strand_asm_lines.specs.declared.fault.LineKind.{LineKind}
use Rattle.strand_asm_lines.specs.declared.fault.LineKind.TheVariants.{BadToken, LongName, BadNumber, BadRegister, UnknownName, MissingOperand, ExtraOperand}
use Rattle.strand_asm_lines.specs.declared.fault.LineError.{LineError}
use Rattle.strand_asm_lines.specs.declared.fault.LineError.TheVariants.{Fault, OutOfMemory}
use Rattle.strand_asm_lines.specs.declared.mnemonic.Mnemonic.{Mnemonic}
use Rattle.strand_asm_lines.specs.declared.table.Due.{Due}
use Rattle.strand_asm_lines.specs.declared.table.Due.TheVariants as due
use Rattle.strand_asm_lines.specs.declared.table.Form.{Form}
use Rattle.strand_asm_lines.specs.declared.line.Section.TheVariants as sections
use Rattle.strand_asm_lines.specs.declared.line.Operand.{Operand}
use Rattle.strand_asm_lines.specs.declared.line.Operand.TheVariants as operands
use Rattle.strand_asm_lines.specs.declared.line.Body.{Body}
use Rattle.strand_asm_lines.specs.declared.line.Body.TheVariants as bodies
use Rattle.strand_asm_lines.specs.declared.line.Line.{Line}
use Rattle.strand_asm_lines.specs.declared.reading.Head.{Head}
use Rattle.strand_asm_lines.specs.declared.reading.Head.TheVariants as heads

infixl 10 ◌>>=◌
abbrev pub ◌>>=◌ : {A B : Type 0} → Result A LineKind → (A → Result B LineKind) → Result B LineKind
(Ok x) >>= f = f x
(Err e) >>= f = Err e

-- what the only word of an operand says
abbrev pub in_word : {A : Type 0} → (List ℕ → Option A) → List ℕ → Option A
in_word says text = option_and_then says (lone (words_of text))

-- a number, or a name
abbrev pub unless_number : Option ℤ → List ℕ → Option Operand
unless_number (Some n) w = Some (operands.Num n)
unless_number None w = option_map (λ name. operands.Label name) (name_of w)

abbrev pub target_of : List ℕ → Option Operand
target_of w = unless_number (number_of w) w

unfoldable pub memory_of : List ℕ → Result Operand LineKind
memory_of text = do
  word ← ok_or (lone (words_of text)) BadToken
  parts ← ok_or (bracketed word) BadToken
  offset ← ok_or (offset_of parts.0) BadNumber
  base ← ok_or (register_of parts.1) BadRegister
  Ok (operands.Mem offset base)

-- an operand by what is due at its place, or its fault
abbrev pub operand_of : Due → List ℕ → Result Operand LineKind
operand_of due.Nothing text = Ok operands.Absent
operand_of due.Register text = ok_or (option_map (λ n. operands.Reg n) (in_word register_of text)) BadRegister
operand_of due.Number text = ok_or (option_map (λ n. operands.Num n) (in_word number_of text)) BadNumber
operand_of due.Target text = ok_or (in_word target_of text) BadNumber
operand_of due.Label text = ok_or (option_map (λ name. operands.Label name) (in_word name_of text)) BadToken
operand_of due.Memory text = memory_of text

-- too few operands or an empty one, then too many
abbrev pub operands_counted : ℕ → List (List ℕ) → Result (Unit {0}) LineKind
operands_counted due texts = if nat_lt (length texts) due || some_empty texts then Err MissingOperand else (if nat_lt due (length texts) then Err ExtraOperand else Ok tt)

-- a directive or an instruction
abbrev pub head_of : List ℕ → Option Head
head_of w = if bytes_eq w (codes ".code") then Some (heads.Section sections.Code) else (if bytes_eq w (codes ".volatile") then Some (heads.Section sections.Volatile)
    else (if bytes_eq w (codes ".persist") then Some (heads.Section sections.Persist) else (if bytes_eq w (codes ".entry") then Some heads.Entry
    else (if bytes_eq w (codes ".word") then Some heads.Word else (if bytes_eq w (codes ".space") then Some heads.Space else option_map (λ op. heads.Code op) (mnemonic_of w))))))

-- how many words '.space' may make
abbrev pub space_of_number : Option ℤ → Option ℕ
space_of_number None = None
space_of_number (Some (pos n)) = if nat_le n MOST_DATA then Some n else None
space_of_number (Some (negsuc n)) = None

abbrev pub space_of : List ℕ → Option ℕ
space_of w = space_of_number (number_of w)

-- the operands of an instruction, the first fault first
unfoldable pub instruction_of : Mnemonic → Form → List ℕ → Result Body LineKind
instruction_of op form rest = do
  enough ← operands_counted (due_count form) (operand_texts rest)
  first ← operand_of form.first (operand_at 0 rest)
  second ← operand_of form.second (operand_at 1 rest)
  third ← operand_of form.third (operand_at 2 rest)
  Ok (bodies.Code (record { op = op; first = first; second = second; third = third }))

unfoldable pub directive_of : Head → List ℕ → Result Body LineKind
directive_of (heads.Section section) rest = do
  enough ← operands_counted 0 (operand_texts rest)
  Ok (bodies.Section section)
directive_of heads.Entry rest = do
  enough ← operands_counted 1 (operand_texts rest)
  target ← operand_of due.Target (operand_at 0 rest)
  Ok (bodies.Entry target)
directive_of heads.Word rest = do
  enough ← operands_counted 1 (operand_texts rest)
  number ← ok_or (in_word number_of (operand_at 0 rest)) BadNumber
  Ok (bodies.Word number)
directive_of heads.Space rest = do
  enough ← operands_counted 1 (operand_texts rest)
  number ← ok_or (in_word space_of (operand_at 0 rest)) BadNumber
  Ok (bodies.Space number)
directive_of (heads.Code op) rest = instruction_of op (form_of op) rest

-- by the first word, and what follows it
unfoldable pub body_by : List ℕ → List ℕ → Result Body LineKind
body_by [] rest = Ok bodies.Empty
body_by (b ∷ bs) rest = do
  head ← ok_or (head_of (b ∷ bs)) UnknownName
  directive_of head rest

abbrev pub body_of : List ℕ → Result Body LineKind
body_of text = body_by (before_first is_blank (after_blanks text)) (from_first is_blank (after_blanks text))

-- a label is a name before the one ':'
abbrev pub labelled : List (List ℕ) → Option (Option (List ℕ) × List ℕ)
labelled [] = None
labelled (rest ∷ []) = Some (None, rest)
labelled (front ∷ rest ∷ []) = if is_name (after_blanks front) then Some (Some (after_blanks front), rest) else None
labelled (front ∷ rest ∷ more ∷ pieces) = None

unfoldable pub line_parts : List ℕ → Option (Option (List ℕ) × List ℕ)
line_parts content = if list_all is_plain content then labelled (pieces 58 content) else None

-- A label is not too long.
abbrev pub label_fits : Option (List ℕ) → Result (Unit {0}) LineKind
label_fits None = Ok tt
label_fits (Some name) = if nat_le (length name) MOST_LABEL then Ok tt else Err LongName

unfoldable pub line_of : List ℕ → Result Line LineKind
line_of text = do
  parts ← ok_or (line_parts (content_of text)) BadToken
  fits ← label_fits parts.0
  body ← body_of parts.1
  Ok (record { label = parts.0; body = body })

-- the registers of a line are x0 to x31
abbrev pub HasOperandRegister : Operand → Type 0
HasOperandRegister operands.Absent = Unit {0}
HasOperandRegister (operands.Reg n) = n < 32
HasOperandRegister (operands.Num n) = Unit {0}
HasOperandRegister (operands.Label name) = Unit {0}
HasOperandRegister (operands.Mem offset base) = base < 32

abbrev pub HasRegistersOf : Body → Type 0
HasRegistersOf bodies.Empty = Unit {0}
HasRegistersOf (bodies.Section section) = Unit {0}
HasRegistersOf (bodies.Entry target) = HasOperandRegister target
HasRegistersOf (bodies.Word number) = Unit {0}
HasRegistersOf (bodies.Space number) = Unit {0}
HasRegistersOf (bodies.Code pattern) = HasOperandRegister pattern.first × HasOperandRegister pattern.second × HasOperandRegister pattern.third

abbrev pub HasRegisters : Line → Type 0
HasRegisters line = HasRegistersOf line.body

-- The label of a line, if it has one, may name a symbol.
abbrev pub HasLabel : Line → Type 0
HasLabel line = IfSome line.label (λ name. IsTrue (is_label name))

-- What a function returned is what was read, unless memory ran out; a fault has the line's number.
abbrev pub GivesLine : {X : Type 0} → ℕ → Result X LineError → Result X LineKind → Type 0
GivesLine line (Ok x) read = read ≡ Ok x
GivesLine line (Err (Fault fault)) read = (read ≡ Err fault.kind) × (fault.line ≡ line)
GivesLine line (Err OutOfMemory) read = Unit {0}
