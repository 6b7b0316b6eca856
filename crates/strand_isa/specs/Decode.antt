-- The instruction that a word stands for, read as the manual lays it out: by opcode, then funct3, then the top bits.
use Rattle.std.specs.Prelude.{ℕ, ◌+◌, ◌-◌, ◌*◌, ◌/◌, ◌%◌, ◌==◌, ◌||◌, nat_lt, ℤ, pos, negsuc, Option, Some, None, if◌then◌else◌}
use Rattle.std.specs.Option.{option_and_then, option_map}
use Rattle.strand_isa.specs.Opcodes.{AUIPC, BRANCH, JAL, JALR, LOAD, LUI, MISC_MEM, OP, OP_32, OP_IMM, OP_IMM_32, STORE}
use Rattle.strand_isa.specs.declared.ops.TheConstants.{BRANCH_OPS, IMM_OPS, LOAD_OPS, REG_OPS, SHIFT_OPS, STORE_OPS, UPPER_OPS}
use Rattle.strand_isa.specs.declared.instr.Instr.{Instr}
use Rattle.strand_isa.specs.declared.instr.Instr.TheVariants.{Upper, Jal, Jalr, Branch, Load, Store, Imm, Shift, Reg, Fence, Ecall, Ebreak, PersistBarrier, NewStrand, JoinStrand}
use Rattle.strand_isa.specs.Ops.{amount_bound, branch_row, imm_row, load_row, op_at, reg_row, shift_row, store_row, upper_row}

-- bits 6..0
abbrev pub opcode : ℕ → ℕ
opcode word = word % 128

-- bits 11..7
abbrev pub rd_of : ℕ → ℕ
rd_of word = word / 128 % 32

-- bits 14..12
abbrev pub funct3 : ℕ → ℕ
funct3 word = word / 4096 % 8

-- bits 19..15
abbrev pub rs1_of : ℕ → ℕ
rs1_of word = word / 32768 % 32

-- bits 24..20
abbrev pub rs2_of : ℕ → ℕ
rs2_of word = word / 1048576 % 32

-- bits 31..25
abbrev pub funct7 : ℕ → ℕ
funct7 word = word / 33554432

-- bits 31..26, which choose among the shifts by a constant
abbrev pub funct6 : ℕ → ℕ
funct6 word = word / 67108864

-- bits 25..20, the amount of a shift by a constant
abbrev pub amount_of : ℕ → ℕ
amount_of word = word / 1048576 % 64

-- a field of values below 2 * half, read as a signed number
abbrev pub signed_of : ℕ → ℕ → ℤ
signed_of half field = if nat_lt field half then pos field else negsuc (2 * half - 1 - field)

-- bits 31..20 are imm[11:0]
abbrev pub i_immediate : ℕ → ℤ
i_immediate word = signed_of 2048 (word / 1048576)

-- bits 31..25 are imm[11:5], bits 11..7 are imm[4:0]
abbrev pub s_immediate : ℕ → ℤ
s_immediate word = signed_of 2048 (word / 128 % 32 + word / 33554432 * 32)

-- bit 31 is imm[12], bits 30..25 are imm[10:5], bits 11..8 are imm[4:1], bit 7 is imm[11]
abbrev pub b_immediate : ℕ → ℤ
b_immediate word =
    signed_of 4096 (word / 128 % 2 * 2048 + word / 256 % 16 * 2 + word / 33554432 % 64 * 32 + word / 2147483648 * 4096)

-- bit 31 is imm[20], bits 30..21 are imm[10:1], bit 20 is imm[11], bits 19..12 are imm[19:12]
abbrev pub j_immediate : ℕ → ℤ
j_immediate word =
    signed_of 1048576 (word / 4096 % 256 * 4096 + word / 1048576 % 2 * 2048 + word / 2097152 % 1024 * 2 + word / 2147483648 * 1048576)

-- the operation on an upper immediate that has the word
unfoldable pub upper_at : ℕ → Option Instr
upper_at word = option_map (λ op. Upper op (rd_of word) (word / 4096)) (op_at upper_row UPPER_OPS (opcode word) 0 0)

-- the jump to a register plus an immediate that has the word
unfoldable pub jalr_at : ℕ → Option Instr
jalr_at word = if funct3 word == 0 then Some (Jalr (rd_of word) (rs1_of word) (i_immediate word)) else None

-- the branch that has the word
unfoldable pub branch_at : ℕ → Option Instr
branch_at word =
    option_map
    (λ op. Branch op (rs1_of word) (rs2_of word) (b_immediate word))
    (op_at branch_row BRANCH_OPS (opcode word) (funct3 word) 0)

-- the load that has the word
unfoldable pub load_at : ℕ → Option Instr
load_at word =
    option_map
    (λ op. Load op (rd_of word) (rs1_of word) (i_immediate word))
    (op_at load_row LOAD_OPS (opcode word) (funct3 word) 0)

-- the store that has the word
unfoldable pub store_at : ℕ → Option Instr
store_at word =
    option_map
    (λ op. Store op (rs1_of word) (rs2_of word) (s_immediate word))
    (op_at store_row STORE_OPS (opcode word) (funct3 word) 0)

-- the operation on a register and an immediate that has the word
unfoldable pub imm_at : ℕ → Option Instr
imm_at word =
    option_map
    (λ op. Imm op (rd_of word) (rs1_of word) (i_immediate word))
    (op_at imm_row IMM_OPS (opcode word) (funct3 word) 0)

-- the shift by a constant that has the word; those at 32 bits have amounts below 32
unfoldable pub shift_at : ℕ → Option Instr
shift_at word =
    option_and_then
    (λ op. if nat_lt (amount_of word) (amount_bound op) then Some (Shift op (rd_of word) (rs1_of word) (amount_of word)) else None)
    (op_at shift_row SHIFT_OPS (opcode word) (funct3 word) (funct6 word))

-- under the opcodes of immediates funct3 tells the shifts from the other operations
abbrev pub immediate_at : ℕ → Option Instr
immediate_at word = if funct3 word == 1 || funct3 word == 5 then shift_at word else imm_at word

-- the operation on two registers that has the word
unfoldable pub reg_at : ℕ → Option Instr
reg_at word =
    option_map
    (λ op. Reg op (rd_of word) (rs1_of word) (rs2_of word))
    (op_at reg_row REG_OPS (opcode word) (funct3 word) (funct7 word))

-- the fence that has the word
unfoldable pub fence_at : ℕ → Option Instr
fence_at word = if funct3 word == 0 then Some (Fence (rd_of word) (rs1_of word) (word / 1048576)) else None

-- the instruction that has the word, where one has it
unfoldable pub instr_of : ℕ → Option Instr
instr_of word =
    if opcode word == LUI || opcode word == AUIPC then upper_at word else
    if opcode word == JAL then Some (Jal (rd_of word) (j_immediate word)) else
    if opcode word == JALR then jalr_at word else
    if opcode word == BRANCH then branch_at word else
    if opcode word == LOAD then load_at word else
    if opcode word == STORE then store_at word else
    if opcode word == OP_IMM || opcode word == OP_IMM_32 then immediate_at word else
    if opcode word == OP || opcode word == OP_32 then reg_at word else
    if opcode word == MISC_MEM then fence_at word else
    if word == 0x00000073 then Some Ecall else
    if word == 0x00100073 then Some Ebreak else
    if word == 0x0000000b then Some PersistBarrier else
    if word == 0x0000100b then Some NewStrand else
    if word == 0x0000200b then Some JoinStrand else None
