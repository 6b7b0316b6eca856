-- The words of an instruction at its place, by the labels of its text.
use Rattle.std.specs.Prelude.{ℕ, ◌+◌, ◌*◌, ◌/◌, ◌%◌, ℤ, pos, ◌-ℤ◌, List, Option, Some, None, Result, Ok, Err, if◌then◌else◌}
use Rattle.std.specs.Option.{option_map}
use Rattle.strand_base.specs.declared.regions.TheConstants.{PERSISTENT_BASE, VOLATILE_BASE, CODE_BASE}
use Rattle.strand_isa.specs.Ops.{amount_bound}
use Rattle.strand_isa.specs.Word.{field_of, IsValid}
use Rattle.strand_isa.specs.Faults.{is_in_range}
use Rattle.strand_isa.specs.Decode.{signed_of}
use Rattle.strand_isa.specs.declared.instr.Instr.{Instr}
use Rattle.strand_isa.specs.declared.instr.Instr.TheVariants.{Upper, Jal, Jalr, Branch, Load, Store, Imm, Shift, Reg, Fence, Ecall, Ebreak, PersistBarrier, NewStrand, JoinStrand}
use Rattle.strand_isa.specs.declared.ops.UpperOp.{UpperOp}
use Rattle.strand_isa.specs.declared.ops.BranchOp.{BranchOp}
use Rattle.strand_isa.specs.declared.ops.LoadOp.{LoadOp}
use Rattle.strand_isa.specs.declared.ops.StoreOp.{StoreOp}
use Rattle.strand_isa.specs.declared.ops.ImmOp.{ImmOp}
use Rattle.strand_isa.specs.declared.ops.ShiftOp.{ShiftOp}
use Rattle.strand_isa.specs.declared.ops.RegOp.{RegOp}
use Rattle.strand_isa.specs.declared.ops.UpperOp.TheVariants.{Lui}
use Rattle.strand_isa.specs.declared.ops.ImmOp.TheVariants.{Addi, Addiw}
use Rattle.strand_asm_lines.specs.declared.line.Section.{Section}
use Rattle.strand_asm_lines.specs.declared.line.Section.TheVariants as sections
use Rattle.strand_asm_lines.specs.declared.line.Operand.{Operand}
use Rattle.strand_asm_lines.specs.declared.line.Operand.TheVariants as operands
use Rattle.strand_asm_lines.specs.declared.line.Pattern.{Pattern}
use Rattle.strand_asm_lines.specs.declared.mnemonic.Mnemonic.{Mnemonic}
use Rattle.strand_asm_lines.specs.declared.mnemonic.Mnemonic.TheVariants as mnemonics
use Rattle.strand_asm.specs.Operands.{register, number, natural_below, signed, even}
use Rattle.strand_asm.specs.Layout.{◌>>=◌, label_place}
use Rattle.strand_asm.specs.declared.coded.Coded.{Coded}
use Rattle.strand_asm.specs.declared.coded.Coded.TheVariants.{One, Two}
use Rattle.strand_asm.specs.declared.place.Place.{Place}
use Rattle.strand_asm.specs.declared.place.Site.{Site}
use Rattle.strand_asm.specs.declared.fault.AsmFault.{AsmFault}
use Rattle.strand_asm.specs.declared.fault.AsmFault.TheVariants.{Undefined, Range}

-- a table of labels
abbrev pub Table : Type 0
Table = List (List ℕ × Place)

-- a number in its field, or its fault
abbrev pub fitted : {A : Type 0} → ℕ → ℤ → Option A → Result A AsmFault
fitted line z (Some x) = Ok x
fitted line z None = Err (Range line z)

-- the code word that a label marks
abbrev pub in_code : Section → ℕ → Option ℕ
in_code sections.Code k = Some k
in_code sections.Volatile k = None
in_code sections.Persist k = None

abbrev pub code_word : Option Place → Option ℕ
code_word None = None
code_word (Some place) = in_code place.section place.index

abbrev pub unless_undefined : {A : Type 0} → ℕ → Option A → Result A AsmFault
unless_undefined line (Some x) = Ok x
unless_undefined line None = Err (Undefined line)

unfoldable pub word_named : Table → ℕ → List ℕ → Result ℕ AsmFault
word_named labels line name = unless_undefined line (code_word (label_place labels name))

-- the offset of a target, in bytes
unfoldable pub offset_to : Table → Site → Operand → Result ℤ AsmFault
offset_to labels site (operands.Label name) = do
  k ← word_named labels site.line name
  Ok (pos (4 * k) -ℤ pos (4 * site.at))
offset_to labels site target = Ok (number target)

-- the address of a word in its section
abbrev pub address : Place → ℕ
address place = elim place.section [ sections.Code ↦ CODE_BASE + 4 * place.index | sections.Volatile ↦ VOLATILE_BASE + 8 * place.index | sections.Persist ↦ PERSISTENT_BASE + 8 * place.index ]

abbrev pub label_address : Table → ℕ → Operand → Result ℕ AsmFault
label_address labels line (operands.Label name) = unless_undefined line (option_map address (label_place labels name))
label_address labels line operand = Ok 0

-- The two instructions that make a number of 32 bits: the low part is its last twelve bits as a signed number, and the
-- high part is the rest.
abbrev pub pair : ℕ → ℕ → Coded
pair rd n = Two (Upper Lui rd ((n + 2048) / 4096 % 1048576)) (Imm Addiw rd rd (signed_of 2048 (n % 4096)))

unfoldable pub li_coded : ℕ → ℕ → ℤ → Result Coded AsmFault
li_coded line rd z =
    if is_in_range 2048 z then Ok (One (Imm Addi rd 0 z)) else
    if is_in_range 2147483648 z then Ok (pair rd (field_of 2147483648 z)) else Err (Range line z)

-- an instruction whose number is in its field, or the fault
abbrev pub one_coded : ℕ → ℤ → Option Instr → Result Coded AsmFault
one_coded line z i = fitted line z (option_map (λ j. One j) i)

-- the instructions of each form, by its operands
abbrev pub upper_coded : ℕ → UpperOp → Operand → Operand → Result Coded AsmFault
upper_coded line op a b = one_coded line (number b) (option_map (λ n. Upper op (register a) n) (natural_below 1048576 (number b)))

abbrev pub jalr_coded : ℕ → Operand → Operand → Result Coded AsmFault
jalr_coded line a b = one_coded line (number b) (option_map (λ n. Jalr (register a) (register b) n) (signed 2048 (number b)))

abbrev pub load_coded : ℕ → LoadOp → Operand → Operand → Result Coded AsmFault
load_coded line op a b = one_coded line (number b) (option_map (λ n. Load op (register a) (register b) n) (signed 2048 (number b)))

abbrev pub store_coded : ℕ → StoreOp → Operand → Operand → Result Coded AsmFault
store_coded line op a b = one_coded line (number b) (option_map (λ n. Store op (register b) (register a) n) (signed 2048 (number b)))

abbrev pub imm_coded : ℕ → ImmOp → Operand → Operand → Operand → Result Coded AsmFault
imm_coded line op a b c = one_coded line (number c) (option_map (λ n. Imm op (register a) (register b) n) (signed 2048 (number c)))

abbrev pub shift_coded : ℕ → ShiftOp → Operand → Operand → Operand → Result Coded AsmFault
shift_coded line op a b c = one_coded line (number c) (option_map (λ n. Shift op (register a) (register b) n) (natural_below (amount_bound op) (number c)))

-- an operation on two registers has no number
abbrev pub reg_coded : RegOp → Operand → Operand → Operand → Coded
reg_coded op a b c = One (Reg op (register a) (register b) (register c))

-- 'mv' adds 0 to a register
abbrev pub move_coded : Operand → Operand → Coded
move_coded a b = One (Imm Addi (register a) (register b) (pos 0))

-- jumps and branches to a target
abbrev pub jump : Table → Site → ℕ → Operand → Result Coded AsmFault
jump labels site rd target = do
  z ← offset_to labels site target
  one_coded site.line z (option_map (λ o. Jal rd o) (even 1048576 z))

abbrev pub branch_coded : Table → Site → BranchOp → Operand → Operand → Operand → Result Coded AsmFault
branch_coded labels site op a b c = do
  z ← offset_to labels site c
  one_coded site.line z (option_map (λ o. Branch op (register a) (register b) o) (even 4096 z))

-- 'la' makes the address of a label
abbrev pub la_coded : Table → ℕ → Operand → Operand → Result Coded AsmFault
la_coded labels line a b = do
  n ← label_address labels line b
  Ok (pair (register a) n)

-- the instructions of a mnemonic, with the operands at its places
unfoldable pub coded : Table → Site → Mnemonic → Operand → Operand → Operand → Result Coded AsmFault
coded labels site (mnemonics.Upper op) a b c = upper_coded site.line op a b
coded labels site mnemonics.Jal a b c = jump labels site (register a) b
coded labels site mnemonics.Jalr a b c = jalr_coded site.line a b
coded labels site (mnemonics.Branch op) a b c = branch_coded labels site op a b c
coded labels site (mnemonics.Load op) a b c = load_coded site.line op a b
coded labels site (mnemonics.Store op) a b c = store_coded site.line op a b
coded labels site (mnemonics.Imm op) a b c = imm_coded site.line op a b c
coded labels site (mnemonics.Shift op) a b c = shift_coded site.line op a b c
coded labels site (mnemonics.Reg op) a b c = Ok (reg_coded op a b c)
coded labels site mnemonics.Fence a b c = Ok (One (Fence 0 0 0x0ff))
coded labels site mnemonics.Ecall a b c = Ok (One Ecall)
coded labels site mnemonics.Ebreak a b c = Ok (One Ebreak)
coded labels site mnemonics.PersistBarrier a b c = Ok (One PersistBarrier)
coded labels site mnemonics.NewStrand a b c = Ok (One NewStrand)
coded labels site mnemonics.JoinStrand a b c = Ok (One JoinStrand)
coded labels site mnemonics.Nop a b c = Ok (One (Imm Addi 0 0 (pos 0)))
coded labels site mnemonics.Ret a b c = Ok (One (Jalr 0 1 (pos 0)))
coded labels site mnemonics.Mv a b c = Ok (move_coded a b)
coded labels site mnemonics.Li a b c = li_coded site.line (register a) (number b)
coded labels site mnemonics.La a b c = la_coded labels site.line a b
coded labels site mnemonics.J a b c = jump labels site 0 a

-- the instructions of a line
abbrev pub pattern_coded : Table → Site → Pattern → Result Coded AsmFault
pattern_coded labels site p = coded labels site p.op p.first p.second p.third

abbrev pub AreValid : Coded → Type 0
AreValid (One i) = IsValid i
AreValid (Two i j) = IsValid i × IsValid j
