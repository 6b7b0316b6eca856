-- What the operations of RV64I compute on register values, which are numbers below 2 ^ 64, as the manual says it.
use Rattle.std.specs.Prelude.{ℕ, ◌+◌, ◌-◌, ◌*◌, ◌/◌, ◌%◌, ◌^◌, ℤ, pos, negsuc, int_lt, nat_lt, nat_eq, if◌then◌else◌, Bool, not, bit_and, bit_or, bit_xor}
use Rattle.strand_isa.specs.Decode.{signed_of}
use Rattle.strand_isa.specs.declared.ops.UpperOp.{UpperOp}
use Rattle.strand_isa.specs.declared.ops.UpperOp.TheVariants.{Lui, Auipc}
use Rattle.strand_isa.specs.declared.ops.BranchOp.{BranchOp}
use Rattle.strand_isa.specs.declared.ops.BranchOp.TheVariants.{Beq, Bne, Blt, Bge, Bltu, Bgeu}
use Rattle.strand_isa.specs.declared.ops.LoadOp.{LoadOp}
use Rattle.strand_isa.specs.declared.ops.LoadOp.TheVariants.{Lb, Lh, Lw, Ld, Lbu, Lhu, Lwu}
use Rattle.strand_isa.specs.declared.ops.StoreOp.{StoreOp}
use Rattle.strand_isa.specs.declared.ops.StoreOp.TheVariants.{Sb, Sh, Sw, Sd}
use Rattle.strand_isa.specs.declared.ops.ImmOp.{ImmOp}
use Rattle.strand_isa.specs.declared.ops.ImmOp.TheVariants.{Addi, Slti, Sltiu, Xori, Ori, Andi, Addiw}
use Rattle.strand_isa.specs.declared.ops.ShiftOp.{ShiftOp}
use Rattle.strand_isa.specs.declared.ops.ShiftOp.TheVariants.{Slli, Srli, Srai, Slliw, Srliw, Sraiw}
use Rattle.strand_isa.specs.declared.ops.RegOp.{RegOp}
use Rattle.strand_isa.specs.declared.ops.RegOp.TheVariants.{Add, Sub, Sll, Slt, Sltu, Xor, Srl, Sra, Or, And, Addw, Subw, Sllw, Srlw, Sraw}

-- a signed number modulo 2 ^ 64
abbrev pub residue : ℤ → ℕ
residue (pos n) = n % 2 ^ 64
residue (negsuc n) = 2 ^ 64 - 1 - n % 2 ^ 64

-- the low `width` bits of a value with their sign carried on up to 64 bits
abbrev pub extended : ℕ → ℕ → ℕ
extended width value =
    if nat_lt (value % 2 ^ width) (2 ^ (width - 1)) then value % 2 ^ width else value % 2 ^ width + 2 ^ 64 - 2 ^ width

-- the order of two values read as signed numbers
abbrev pub signed_less : ℕ → ℕ → Bool
signed_less a b = int_lt (signed_of (2 ^ 63) a) (signed_of (2 ^ 63) b)

-- a right shift of a value of `width` bits that keeps its sign
abbrev pub shifted_signed : ℕ → ℕ → ℕ → ℕ
shifted_signed width a k =
    if nat_lt a (2 ^ (width - 1)) then a / 2 ^ k else 2 ^ width - 1 - (2 ^ width - 1 - a) / 2 ^ k

-- 1 where a test holds, else 0
abbrev pub flag : Bool → ℕ
flag b = if b then 1 else 0

-- rd from pc and the immediate
abbrev pub upper_value : UpperOp → ℕ → ℕ → ℕ
upper_value Lui pc i = extended 32 (i * 4096)
upper_value Auipc pc i = (pc + extended 32 (i * 4096)) % 2 ^ 64

-- whether a branch is taken, from rs1 and rs2
abbrev pub is_taken : BranchOp → ℕ → ℕ → Bool
is_taken Beq a b = nat_eq a b
is_taken Bne a b = not (nat_eq a b)
is_taken Blt a b = signed_less a b
is_taken Bge a b = not (signed_less a b)
is_taken Bltu a b = nat_lt a b
is_taken Bgeu a b = not (nat_lt a b)

-- rd from rs1 and the immediate modulo 2 ^ 64
abbrev pub imm_value : ImmOp → ℕ → ℕ → ℕ
imm_value Addi a i = (a + i) % 2 ^ 64
imm_value Slti a i = flag (signed_less a i)
imm_value Sltiu a i = flag (nat_lt a i)
imm_value Xori a i = bit_xor a i
imm_value Ori a i = bit_or a i
imm_value Andi a i = bit_and a i
imm_value Addiw a i = extended 32 (a + i)

-- rd from rs1 and the amount of the shift
abbrev pub shift_value : ShiftOp → ℕ → ℕ → ℕ
shift_value Slli a k = a * 2 ^ k % 2 ^ 64
shift_value Srli a k = a / 2 ^ k
shift_value Srai a k = shifted_signed 64 a k
shift_value Slliw a k = extended 32 (a * 2 ^ k)
shift_value Srliw a k = extended 32 (a % 2 ^ 32 / 2 ^ k)
shift_value Sraiw a k = extended 32 (shifted_signed 32 (a % 2 ^ 32) k)

-- rd from rs1 and rs2
abbrev pub reg_value : RegOp → ℕ → ℕ → ℕ
reg_value Add a b = (a + b) % 2 ^ 64
reg_value Sub a b = (a + 2 ^ 64 - b) % 2 ^ 64
reg_value Sll a b = shift_value Slli a (b % 64)
reg_value Slt a b = flag (signed_less a b)
reg_value Sltu a b = flag (nat_lt a b)
reg_value Xor a b = bit_xor a b
reg_value Srl a b = shift_value Srli a (b % 64)
reg_value Sra a b = shift_value Srai a (b % 64)
reg_value Or a b = bit_or a b
reg_value And a b = bit_and a b
reg_value Addw a b = extended 32 (a + b)
reg_value Subw a b = extended 32 (a + 2 ^ 64 - b)
reg_value Sllw a b = shift_value Slliw a (b % 32)
reg_value Srlw a b = shift_value Srliw a (b % 32)
reg_value Sraw a b = shift_value Sraiw a (b % 32)

-- how many bytes a load reads
abbrev pub load_bytes : LoadOp → ℕ
load_bytes Lb = 1
load_bytes Lh = 2
load_bytes Lw = 4
load_bytes Ld = 8
load_bytes Lbu = 1
load_bytes Lhu = 2
load_bytes Lwu = 4

-- rd from the word that holds the bytes, and the number of bytes before them in it
abbrev pub load_value : LoadOp → ℕ → ℕ → ℕ
load_value Lb loaded place = extended 8 (loaded / 2 ^ (8 * place))
load_value Lh loaded place = extended 16 (loaded / 2 ^ (8 * place))
load_value Lw loaded place = extended 32 (loaded / 2 ^ (8 * place))
load_value Ld loaded place = loaded
load_value Lbu loaded place = loaded / 2 ^ (8 * place) % 2 ^ 8
load_value Lhu loaded place = loaded / 2 ^ (8 * place) % 2 ^ 16
load_value Lwu loaded place = loaded / 2 ^ (8 * place) % 2 ^ 32

-- how many bytes a store writes
abbrev pub store_bytes : StoreOp → ℕ
store_bytes Sb = 1
store_bytes Sh = 2
store_bytes Sw = 4
store_bytes Sd = 8

-- a word with `width` bits from bit `place` on replaced by the low bits of a value
abbrev pub with_bits : ℕ → ℕ → ℕ → ℕ → ℕ
with_bits width place value word =
    word / 2 ^ (place + width) * 2 ^ (place + width) + value % 2 ^ width * 2 ^ place + word % 2 ^ place

-- a word with the bits of a mask cleared and others set
abbrev pub merged : ℕ → ℕ → ℕ → ℕ
merged word mask bits = bit_or (bit_and word (2 ^ 64 - 1 - mask)) bits
