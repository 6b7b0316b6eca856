-- The operations of each form: the name of each in a text, and the numbers by which the manual tells it apart.
use Rattle.std.specs.Prelude.{◌≡◌, ℕ, ◌<◌, ◌==◌, Bool, ◌&&◌, List, Option, if◌then◌else◌}
use Rattle.std.specs.List.{find}
use Rattle.std.specs.Str.{bytes_eq}
use lib.Chars.{codes}
use Rattle.strand_isa.specs.Opcodes.{AUIPC, BRANCH, LOAD, LUI, OP, OP_32, OP_IMM, OP_IMM_32, STORE}
use Rattle.strand_isa.specs.declared.ops.TheConstants.{BRANCH_OPS, IMM_OPS, LOAD_OPS, REG_OPS, SHIFT_OPS, STORE_OPS, UPPER_OPS}
use Rattle.strand_isa.specs.declared.ops.Codes.{Codes}
use Rattle.strand_isa.specs.declared.ops.UpperOp.{UpperOp}
use Rattle.strand_isa.specs.declared.ops.UpperOp.TheVariants.{Lui, Auipc}
use Rattle.strand_isa.specs.declared.ops.BranchOp.{BranchOp}
use Rattle.strand_isa.specs.declared.ops.BranchOp.TheVariants.{Beq, Bne, Blt, Bge, Bltu, Bgeu}
use Rattle.strand_isa.specs.declared.ops.LoadOp.{LoadOp}
use Rattle.strand_isa.specs.declared.ops.LoadOp.TheVariants.{Lb, Lh, Lw, Ld, Lbu, Lhu, Lwu}
use Rattle.strand_isa.specs.declared.ops.StoreOp.{StoreOp}
use Rattle.strand_isa.specs.declared.ops.StoreOp.TheVariants.{Sb, Sh, Sw, Sd}
use Rattle.strand_isa.specs.declared.ops.ImmOp.{ImmOp}
use Rattle.strand_isa.specs.declared.ops.ImmOp.TheVariants.{Addi, Slti, Sltiu, Xori, Ori, Andi, Addiw}
use Rattle.strand_isa.specs.declared.ops.ShiftOp.{ShiftOp}
use Rattle.strand_isa.specs.declared.ops.ShiftOp.TheVariants.{Slli, Srli, Srai, Slliw, Srliw, Sraiw}
use Rattle.strand_isa.specs.declared.ops.RegOp.{RegOp}
use Rattle.strand_isa.specs.declared.ops.RegOp.TheVariants.{Add, Sub, Sll, Slt, Sltu, Xor, Srl, Sra, Or, And, Addw, Subw, Sllw, Srlw, Sraw}

-- an operation's name in a text, and its codes: the opcode, funct3 and the top bits, 0 where its form has none
pub record Row : Type 0 where
  pub name : List ℕ
  pub codes : Codes

-- the row of a name and these codes
abbrev pub op_row : List ℕ → ℕ → ℕ → ℕ → Row
op_row name opcode funct3 top = record { name = name; codes = record { opcode = opcode; funct3 = funct3; top = top } }

-- the operations on an upper immediate
abbrev pub upper_row : UpperOp → Row
upper_row Lui = op_row (codes "lui") LUI 0 0
upper_row Auipc = op_row (codes "auipc") AUIPC 0 0

-- the branches
abbrev pub branch_row : BranchOp → Row
branch_row Beq = op_row (codes "beq") BRANCH 0 0
branch_row Bne = op_row (codes "bne") BRANCH 1 0
branch_row Blt = op_row (codes "blt") BRANCH 4 0
branch_row Bge = op_row (codes "bge") BRANCH 5 0
branch_row Bltu = op_row (codes "bltu") BRANCH 6 0
branch_row Bgeu = op_row (codes "bgeu") BRANCH 7 0

-- the loads
abbrev pub load_row : LoadOp → Row
load_row Lb = op_row (codes "lb") LOAD 0 0
load_row Lh = op_row (codes "lh") LOAD 1 0
load_row Lw = op_row (codes "lw") LOAD 2 0
load_row Ld = op_row (codes "ld") LOAD 3 0
load_row Lbu = op_row (codes "lbu") LOAD 4 0
load_row Lhu = op_row (codes "lhu") LOAD 5 0
load_row Lwu = op_row (codes "lwu") LOAD 6 0

-- the stores
abbrev pub store_row : StoreOp → Row
store_row Sb = op_row (codes "sb") STORE 0 0
store_row Sh = op_row (codes "sh") STORE 1 0
store_row Sw = op_row (codes "sw") STORE 2 0
store_row Sd = op_row (codes "sd") STORE 3 0

-- the operations on a register and an immediate
abbrev pub imm_row : ImmOp → Row
imm_row Addi = op_row (codes "addi") OP_IMM 0 0
imm_row Slti = op_row (codes "slti") OP_IMM 2 0
imm_row Sltiu = op_row (codes "sltiu") OP_IMM 3 0
imm_row Xori = op_row (codes "xori") OP_IMM 4 0
imm_row Ori = op_row (codes "ori") OP_IMM 6 0
imm_row Andi = op_row (codes "andi") OP_IMM 7 0
imm_row Addiw = op_row (codes "addiw") OP_IMM_32 0 0

-- the shifts by a constant; the top bits are 31..26
abbrev pub shift_row : ShiftOp → Row
shift_row Slli = op_row (codes "slli") OP_IMM 1 0b000000
shift_row Srli = op_row (codes "srli") OP_IMM 5 0b000000
shift_row Srai = op_row (codes "srai") OP_IMM 5 0b010000
shift_row Slliw = op_row (codes "slliw") OP_IMM_32 1 0b000000
shift_row Srliw = op_row (codes "srliw") OP_IMM_32 5 0b000000
shift_row Sraiw = op_row (codes "sraiw") OP_IMM_32 5 0b010000

-- the operations on two registers; the top bits are 31..25
abbrev pub reg_row : RegOp → Row
reg_row Add = op_row (codes "add") OP 0 0b0000000
reg_row Sub = op_row (codes "sub") OP 0 0b0100000
reg_row Sll = op_row (codes "sll") OP 1 0b0000000
reg_row Slt = op_row (codes "slt") OP 2 0b0000000
reg_row Sltu = op_row (codes "sltu") OP 3 0b0000000
reg_row Xor = op_row (codes "xor") OP 4 0b0000000
reg_row Srl = op_row (codes "srl") OP 5 0b0000000
reg_row Sra = op_row (codes "sra") OP 5 0b0100000
reg_row Or = op_row (codes "or") OP 6 0b0000000
reg_row And = op_row (codes "and") OP 7 0b0000000
reg_row Addw = op_row (codes "addw") OP_32 0 0b0000000
reg_row Subw = op_row (codes "subw") OP_32 0 0b0100000
reg_row Sllw = op_row (codes "sllw") OP_32 1 0b0000000
reg_row Srlw = op_row (codes "srlw") OP_32 5 0b0000000
reg_row Sraw = op_row (codes "sraw") OP_32 5 0b0100000

-- codes that a word has room for, with top bits below a bound
abbrev pub AreSmallCodes : ℕ → Codes → Type 0
AreSmallCodes bound c = (c.opcode < 128) × (c.funct3 < 8) × (c.top < bound)

-- codes are these
abbrev pub HasCodes : Codes → ℕ → ℕ → ℕ → Type 0
HasCodes c opcode funct3 top = (c.opcode ≡ opcode) × (c.funct3 ≡ funct3) × (c.top ≡ top)

-- the test for that
abbrev pub has_codes : Codes → ℕ → ℕ → ℕ → Bool
has_codes c opcode funct3 top = c.opcode == opcode && c.funct3 == funct3 && c.top == top

-- the operation of a list that has these codes
unfoldable pub op_at : {Op : Type 0} → (Op → Row) → List Op → ℕ → ℕ → ℕ → Option Op
op_at row_of ops opcode funct3 top = find (λ op. has_codes (row_of op).codes opcode funct3 top) ops

-- the operation of a list that a word names
unfoldable pub op_named : {Op : Type 0} → (Op → Row) → List Op → List ℕ → Option Op
op_named row_of ops word = find (λ op. bytes_eq (row_of op).name word) ops

-- the operation on an upper immediate that a word names
abbrev pub upper_named : List ℕ → Option UpperOp
upper_named word = op_named upper_row UPPER_OPS word

-- the branch that a word names
abbrev pub branch_named : List ℕ → Option BranchOp
branch_named word = op_named branch_row BRANCH_OPS word

-- the load that a word names
abbrev pub load_named : List ℕ → Option LoadOp
load_named word = op_named load_row LOAD_OPS word

-- the store that a word names
abbrev pub store_named : List ℕ → Option StoreOp
store_named word = op_named store_row STORE_OPS word

-- the operation on a register and an immediate that a word names
abbrev pub imm_named : List ℕ → Option ImmOp
imm_named word = op_named imm_row IMM_OPS word

-- the shift by a constant that a word names
abbrev pub shift_named : List ℕ → Option ShiftOp
shift_named word = op_named shift_row SHIFT_OPS word

-- the operation on two registers that a word names
abbrev pub reg_named : List ℕ → Option RegOp
reg_named word = op_named reg_row REG_OPS word

-- the amounts of a shift are the numbers below this bound: 32 at 32 bits, else 64
abbrev pub amount_bound : ShiftOp → ℕ
amount_bound op = if (shift_row op).codes.opcode == OP_IMM_32 then 32 else 64
