-- The word of each instruction, field by field.
use Rattle.std.specs.Prelude.{◌≡◌, ℕ, ◌+◌, ◌-◌, ◌*◌, ◌/◌, ◌%◌, ◌<◌, ℤ, pos, negsuc}
use Rattle.strand_isa.specs.declared.instr.Instr.{Instr}
use Rattle.strand_isa.specs.declared.instr.Instr.TheVariants.{Upper, Jal, Jalr, Branch, Load, Store, Imm, Shift, Reg, Fence, Ecall, Ebreak, PersistBarrier, NewStrand, JoinStrand}
use Rattle.strand_isa.specs.Opcodes.{JAL, JALR, MISC_MEM}
use Rattle.strand_isa.specs.Ops.{amount_bound, branch_row, imm_row, load_row, reg_row, shift_row, store_row, upper_row}

-- a signed number from -h to h - 1 as a field of values below 2 * h
abbrev pub field_of : ℕ → ℤ → ℕ
field_of h (pos n) = n
field_of h (negsuc n) = 2 * h - (n + 1)

-- a signed number from -h to h - 1
abbrev pub IsInRange : ℕ → ℤ → Type 0
IsInRange h (pos n) = n < h
IsInRange h (negsuc n) = n < h

-- an even signed number from -h to h - 1
abbrev pub IsEvenWithin : ℕ → ℤ → Type 0
IsEvenWithin h z = IsInRange h z × (field_of h z % 2 ≡ 0)

-- the fields of the I form
abbrev pub i_form : ℕ → ℕ → ℕ → ℕ → ℕ → ℕ
i_form opcode rd funct3 rs1 imm = opcode + rd * 128 + funct3 * 4096 + rs1 * 32768 + imm * 1048576

-- the fields of the S form
abbrev pub s_form : ℕ → ℕ → ℕ → ℕ → ℕ → ℕ
s_form opcode funct3 rs1 rs2 imm =
    opcode + imm % 32 * 128 + funct3 * 4096 + rs1 * 32768 + rs2 * 1048576 + imm / 32 * 33554432

-- the fields of the B form
abbrev pub b_form : ℕ → ℕ → ℕ → ℕ → ℕ → ℕ
b_form opcode funct3 rs1 rs2 imm =
    opcode + imm / 2048 % 2 * 128 + imm / 2 % 16 * 256 + funct3 * 4096 + rs1 * 32768 + rs2 * 1048576 + imm / 32 % 64 * 33554432 + imm / 4096 * 2147483648

-- the fields of the J form
abbrev pub j_form : ℕ → ℕ → ℕ → ℕ
j_form opcode rd imm =
    opcode + rd * 128 + imm / 4096 % 256 * 4096 + imm / 2048 % 2 * 1048576 + imm / 2 % 1024 * 2097152 + imm / 1048576 * 2147483648

abbrev pub instr_word : Instr → ℕ
instr_word (Upper op rd imm) = (upper_row op).codes.opcode + rd * 128 + imm * 4096
instr_word (Jal rd offset) = j_form JAL rd (field_of 1048576 offset)
instr_word (Jalr rd rs1 imm) = i_form JALR rd 0 rs1 (field_of 2048 imm)
instr_word (Branch op rs1 rs2 offset) =
    b_form (branch_row op).codes.opcode (branch_row op).codes.funct3 rs1 rs2 (field_of 4096 offset)
instr_word (Load op rd rs1 imm) =
    i_form (load_row op).codes.opcode rd (load_row op).codes.funct3 rs1 (field_of 2048 imm)
instr_word (Store op rs1 rs2 imm) =
    s_form (store_row op).codes.opcode (store_row op).codes.funct3 rs1 rs2 (field_of 2048 imm)
instr_word (Imm op rd rs1 imm) =
    i_form (imm_row op).codes.opcode rd (imm_row op).codes.funct3 rs1 (field_of 2048 imm)
instr_word (Shift op rd rs1 amount) =
    i_form (shift_row op).codes.opcode rd (shift_row op).codes.funct3 rs1 (amount + (shift_row op).codes.top * 64)
instr_word (Reg op rd rs1 rs2) =
    i_form (reg_row op).codes.opcode rd (reg_row op).codes.funct3 rs1 (rs2 + (reg_row op).codes.top * 32)
instr_word (Fence rd rs1 bits) = i_form MISC_MEM rd 0 rs1 bits
instr_word Ecall = 0x00000073
instr_word Ebreak = 0x00100073
instr_word PersistBarrier = 0x0000000b
instr_word NewStrand = 0x0000100b
instr_word JoinStrand = 0x0000200b

-- every field is in its range
abbrev pub IsValid : Instr → Type 0
IsValid (Upper op rd imm) = (rd < 32) × (imm < 1048576)
IsValid (Jal rd offset) = (rd < 32) × IsEvenWithin 1048576 offset
IsValid (Jalr rd rs1 imm) = (rd < 32) × (rs1 < 32) × IsInRange 2048 imm
IsValid (Branch op rs1 rs2 offset) =
    (rs1 < 32) × (rs2 < 32) × IsEvenWithin 4096 offset
IsValid (Load op rd rs1 imm) = (rd < 32) × (rs1 < 32) × IsInRange 2048 imm
IsValid (Store op rs1 rs2 imm) = (rs1 < 32) × (rs2 < 32) × IsInRange 2048 imm
IsValid (Imm op rd rs1 imm) = (rd < 32) × (rs1 < 32) × IsInRange 2048 imm
IsValid (Shift op rd rs1 amount) = (rd < 32) × (rs1 < 32) × (amount < amount_bound op)
IsValid (Reg op rd rs1 rs2) = (rd < 32) × (rs1 < 32) × (rs2 < 32)
IsValid (Fence rd rs1 bits) = (rd < 32) × (rs1 < 32) × (bits < 4096)
IsValid _ = Unit {0}
