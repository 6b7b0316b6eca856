-- The opcodes of the instructions that have fields, bits 6..0 of a word, by the manual's names (RISC-V Unprivileged ISA, table of base opcodes).
use Rattle.std.specs.Prelude.{ℕ}

-- the loads
abbrev pub LOAD : ℕ
LOAD = 0b0000011

-- the fences
abbrev pub MISC_MEM : ℕ
MISC_MEM = 0b0001111

-- the operations on a register and an immediate, and the shifts by a constant
abbrev pub OP_IMM : ℕ
OP_IMM = 0b0010011

-- the upper immediate that is added to the pc
abbrev pub AUIPC : ℕ
AUIPC = 0b0010111

-- what `OP_IMM` has, at 32 bits
abbrev pub OP_IMM_32 : ℕ
OP_IMM_32 = 0b0011011

-- the stores
abbrev pub STORE : ℕ
STORE = 0b0100011

-- the operations on two registers
abbrev pub OP : ℕ
OP = 0b0110011

-- the upper immediate that is loaded
abbrev pub LUI : ℕ
LUI = 0b0110111

-- what `OP` has, at 32 bits
abbrev pub OP_32 : ℕ
OP_32 = 0b0111011

-- the conditional branches
abbrev pub BRANCH : ℕ
BRANCH = 0b1100011

-- the jump to a register plus an immediate
abbrev pub JALR : ℕ
JALR = 0b1100111

-- the jump by an offset
abbrev pub JAL : ℕ
JAL = 0b1101111
