-- Serves clauses every of decode and back of encode: each valid instruction is read back from its word.
use Rattle.std.proofs.Common.{◌≡◌, ℕ, ◌+◌, ◌-◌, ◌*◌, ◌/◌, ◌%◌, ◌<◌, ◌∙◌, ℤ, pos, negsuc, Some, refl, true, nat_lt, lit<, arith}
use Rattle.std.proofs.lemmas.Bool.Decides.{nat_tests}
use Rattle.strand_isa.specs.Opcodes.{JAL, JALR, MISC_MEM}
use Rattle.strand_isa.specs.declared.ops.TheConstants.{BRANCH_OPS, IMM_OPS, LOAD_OPS, REG_OPS, SHIFT_OPS, STORE_OPS, UPPER_OPS}
use Rattle.strand_isa.specs.Word.{IsValid, IsInRange, b_form, field_of, i_form, j_form, s_form, instr_word}
use Rattle.strand_isa.specs.Ops.{AreSmallCodes, amount_bound, branch_row, imm_row, load_row, op_at, reg_row, shift_row, store_row, upper_row}
use Rattle.strand_isa.specs.Decode.{branch_at, fence_at, imm_at, instr_of, jalr_at, load_at, reg_at, shift_at, signed_of, store_at, upper_at}
use Rattle.strand_isa.specs.declared.instr.Instr.{Instr}
use Rattle.strand_isa.specs.declared.instr.Instr.TheVariants.{Upper, Jal, Jalr, Branch, Load, Store, Imm, Shift, Reg, Fence, Ecall, Ebreak, PersistBarrier, NewStrand, JoinStrand}
use Rattle.strand_isa.specs.declared.ops.UpperOp.{UpperOp}
use Rattle.strand_isa.specs.declared.ops.BranchOp.{BranchOp}
use Rattle.strand_isa.specs.declared.ops.LoadOp.{LoadOp}
use Rattle.strand_isa.specs.declared.ops.StoreOp.{StoreOp}
use Rattle.strand_isa.specs.declared.ops.ImmOp.{ImmOp}
use Rattle.strand_isa.specs.declared.ops.ShiftOp.{ShiftOp}
use Rattle.strand_isa.specs.declared.ops.RegOp.{RegOp}

-- a signed number is read back from its field
signed-field : (h : ℕ) (z : ℤ) → IsInRange h z → signed_of h (field_of h z) ≡ z
signed-field h (pos n) small = grind (arith, nat_tests)
signed-field h (negsuc n) small =
    let back : 2 * h - 1 - (2 * h - (n + 1)) ≡ n = omega arith in
    grind (arith, nat_tests)

-- the fields of each form are read back from its word
u_fields : (o d m : ℕ) → o < 128 → d < 32 → let w = o + d * 128 + m * 4096 in (w % 128 ≡ o) × (w / 128 % 32 ≡ d) × (w / 4096 ≡ m)
u_fields o d m oh dh = (omega arith, omega arith, omega arith)

i_fields : (o rd f s m : ℕ) → o < 128 → rd < 32 → f < 8 → s < 32 → let w = i_form o rd f s m in (w % 128 ≡ o) × (w / 128 % 32 ≡ rd) × (w / 4096 % 8 ≡ f) × (w / 32768 % 32 ≡ s) × (w / 1048576 ≡ m)
i_fields o rd f s m oh dh fh sh = (omega arith, omega arith, omega arith, omega arith, omega arith)

s_fields : (o f s t m : ℕ) → o < 128 → f < 8 → s < 32 → t < 32 → m < 4096 → let w = s_form o f s t m in (w % 128 ≡ o) × (w / 4096 % 8 ≡ f) × (w / 32768 % 32 ≡ s) × (w / 1048576 % 32 ≡ t) × (w / 128 % 32 + w / 33554432 * 32 ≡ m)
s_fields o f s t m oh fh sh th mh = (omega arith, omega arith, omega arith, omega arith, omega arith)

b_fields : (o f s t m : ℕ) → o < 128 → f < 8 → s < 32 → t < 32 → m < 8192 → m % 2 ≡ 0 → let w = b_form o f s t m in (w % 128 ≡ o) × (w / 4096 % 8 ≡ f) × (w / 32768 % 32 ≡ s) × (w / 1048576 % 32 ≡ t) × (w / 128 % 2 * 2048 + w / 256 % 16 * 2 + w / 33554432 % 64 * 32 + w / 2147483648 * 4096 ≡ m)
b_fields o f s t m oh fh sh th mh even = (omega arith, omega arith, omega arith, omega arith, omega arith)

j_fields : (o d m : ℕ) → o < 128 → d < 32 → m < 2097152 → m % 2 ≡ 0 → let w = j_form o d m in (w % 128 ≡ o) × (w / 128 % 32 ≡ d) × (w / 4096 % 256 * 4096 + w / 1048576 % 2 * 2048 + w / 2097152 % 1024 * 2 + w / 2147483648 * 1048576 ≡ m)
j_fields o d m oh dh mh even = (omega arith, omega arith, omega arith)

-- the amount and bits 31..26 of a shift by a constant
shift_fields : (o d f s a t : ℕ) → o < 128 → d < 32 → f < 8 → s < 32 → a < 64 → let w = i_form o d f s (a + t * 64) in (w / 1048576 % 64 ≡ a) × (w / 67108864 ≡ t)
shift_fields o d f s a t oh dh fh sh ah = (omega arith, omega arith)

-- rs2 and bits 31..25 of an operation on two registers
reg_fields : (o d f s r t : ℕ) → o < 128 → d < 32 → f < 8 → s < 32 → r < 32 → let w = i_form o d f s (r + t * 32) in (w / 1048576 % 32 ≡ r) × (w / 33554432 ≡ t)
reg_fields o d f s r t oh dh fh sh rh = (omega arith, omega arith)

field_small : (h : ℕ) (z : ℤ) → IsInRange h z → field_of h z < 2 * h
field_small h (pos n) small = omega arith
field_small h (negsuc n) small = omega arith

-- Of each operation: its codes fit a word, it is found by them, and words that have them are read by its form.
upper_read : (op : UpperOp) → AreSmallCodes 128 (upper_row op).codes × (op_at upper_row UPPER_OPS (upper_row op).codes.opcode 0 0 ≡ Some op) × ((w : ℕ) → w % 128 ≡ (upper_row op).codes.opcode → instr_of w ≡ upper_at w)
unfolding instr_of op_at
upper_read op = (grind arith, grind arith, grind (arith, nat_tests))

branch_read : (op : BranchOp) → AreSmallCodes 128 (branch_row op).codes × (op_at branch_row BRANCH_OPS (branch_row op).codes.opcode (branch_row op).codes.funct3 0 ≡ Some op) × ((w : ℕ) → w % 128 ≡ (branch_row op).codes.opcode → instr_of w ≡ branch_at w)
unfolding instr_of op_at
branch_read op = (grind arith, grind arith, grind (arith, nat_tests))

load_read : (op : LoadOp) → AreSmallCodes 128 (load_row op).codes × (op_at load_row LOAD_OPS (load_row op).codes.opcode (load_row op).codes.funct3 0 ≡ Some op) × ((w : ℕ) → w % 128 ≡ (load_row op).codes.opcode → instr_of w ≡ load_at w)
unfolding instr_of op_at
load_read op = (grind arith, grind arith, grind (arith, nat_tests))

store_read : (op : StoreOp) → AreSmallCodes 128 (store_row op).codes × (op_at store_row STORE_OPS (store_row op).codes.opcode (store_row op).codes.funct3 0 ≡ Some op) × ((w : ℕ) → w % 128 ≡ (store_row op).codes.opcode → instr_of w ≡ store_at w)
unfolding instr_of op_at
store_read op = (grind arith, grind arith, grind (arith, nat_tests))

imm_read : (op : ImmOp) → AreSmallCodes 128 (imm_row op).codes × (op_at imm_row IMM_OPS (imm_row op).codes.opcode (imm_row op).codes.funct3 0 ≡ Some op) × ((w : ℕ) → w % 128 ≡ (imm_row op).codes.opcode → w / 4096 % 8 ≡ (imm_row op).codes.funct3 → instr_of w ≡ imm_at w)
unfolding instr_of op_at
imm_read op = (grind arith, grind arith, grind (arith, nat_tests))

shift_read : (op : ShiftOp) → AreSmallCodes 64 (shift_row op).codes × (op_at shift_row SHIFT_OPS (shift_row op).codes.opcode (shift_row op).codes.funct3 (shift_row op).codes.top ≡ Some op) × ((w : ℕ) → w % 128 ≡ (shift_row op).codes.opcode → w / 4096 % 8 ≡ (shift_row op).codes.funct3 → instr_of w ≡ shift_at w)
unfolding instr_of op_at
shift_read op = (grind arith, grind arith, grind (arith, nat_tests))

reg_read : (op : RegOp) → AreSmallCodes 128 (reg_row op).codes × (op_at reg_row REG_OPS (reg_row op).codes.opcode (reg_row op).codes.funct3 (reg_row op).codes.top ≡ Some op) × ((w : ℕ) → w % 128 ≡ (reg_row op).codes.opcode → instr_of w ≡ reg_at w)
unfolding instr_of op_at
reg_read op = (grind arith, grind arith, grind (arith, nat_tests))

upper_back : (op : UpperOp) (rd imm : ℕ) → IsValid (Upper op rd imm) → instr_of (instr_word (Upper op rd imm)) ≡ Some (Upper op rd imm)
unfolding upper_at
upper_back op rd imm v =
    let r = upper_read op in
    let k = u_fields (upper_row op).codes.opcode rd imm r.0.0 v.0 in
    r.2 _ k.0 ∙ rw (k.0, k.1, k.2, r.1) refl

branch_back : (op : BranchOp) (rs1 rs2 : ℕ) (offset : ℤ) → IsValid (Branch op rs1 rs2 offset) → instr_of (instr_word (Branch op rs1 rs2 offset)) ≡ Some (Branch op rs1 rs2 offset)
unfolding branch_at
branch_back op rs1 rs2 offset v =
    let r = branch_read op in
    let k = b_fields (branch_row op).codes.opcode (branch_row op).codes.funct3 rs1 rs2 (field_of 4096 offset) r.0.0 r.0.1 v.0 v.1 (field_small 4096 offset v.2.0) v.2.1 in
    r.2 _ k.0 ∙ rw (k.0, k.1, k.2, k.3, k.4, r.1, signed-field 4096 offset v.2.0) refl

load_back : (op : LoadOp) (rd rs1 : ℕ) (imm : ℤ) → IsValid (Load op rd rs1 imm) → instr_of (instr_word (Load op rd rs1 imm)) ≡ Some (Load op rd rs1 imm)
unfolding load_at
load_back op rd rs1 imm v =
    let r = load_read op in
    let k = i_fields (load_row op).codes.opcode rd (load_row op).codes.funct3 rs1 (field_of 2048 imm) r.0.0 v.0 r.0.1 v.1 in
    r.2 _ k.0 ∙ rw (k.0, k.1, k.2, k.3, k.4, r.1, signed-field 2048 imm v.2) refl

store_back : (op : StoreOp) (rs1 rs2 : ℕ) (imm : ℤ) → IsValid (Store op rs1 rs2 imm) → instr_of (instr_word (Store op rs1 rs2 imm)) ≡ Some (Store op rs1 rs2 imm)
unfolding store_at
store_back op rs1 rs2 imm v =
    let r = store_read op in
    let k = s_fields (store_row op).codes.opcode (store_row op).codes.funct3 rs1 rs2 (field_of 2048 imm) r.0.0 r.0.1 v.0 v.1 (field_small 2048 imm v.2) in
    r.2 _ k.0 ∙ rw (k.0, k.1, k.2, k.3, k.4, r.1, signed-field 2048 imm v.2) refl

imm_back : (op : ImmOp) (rd rs1 : ℕ) (imm : ℤ) → IsValid (Imm op rd rs1 imm) → instr_of (instr_word (Imm op rd rs1 imm)) ≡ Some (Imm op rd rs1 imm)
unfolding imm_at
imm_back op rd rs1 imm v =
    let r = imm_read op in
    let k = i_fields (imm_row op).codes.opcode rd (imm_row op).codes.funct3 rs1 (field_of 2048 imm) r.0.0 v.0 r.0.1 v.1 in
    r.2 _ k.0 k.2 ∙ rw (k.0, k.1, k.2, k.3, k.4, r.1, signed-field 2048 imm v.2) refl

bound_small : (op : ShiftOp) → amount_bound op < 65
bound_small op = grind arith

shift_back : (op : ShiftOp) (rd rs1 amount : ℕ) → IsValid (Shift op rd rs1 amount) → instr_of (instr_word (Shift op rd rs1 amount)) ≡ Some (Shift op rd rs1 amount)
unfolding shift_at
shift_back op rd rs1 amount v =
    let r = shift_read op in
    let c = (shift_row op).codes in
    let k = i_fields c.opcode rd c.funct3 rs1 (amount + c.top * 64) r.0.0 v.0 r.0.1 v.1 in
    let l = shift_fields c.opcode rd c.funct3 rs1 amount c.top r.0.0 v.0 r.0.1 v.1 (omega (arith, bound_small op)) in
    let b : nat_lt amount (amount_bound op) ≡ true = grind (arith, nat_tests) in
    r.2 _ k.0 k.2 ∙ rw (k.0, k.1, k.2, k.3, l.0, l.1, r.1, b) refl

reg_back : (op : RegOp) (rd rs1 rs2 : ℕ) → IsValid (Reg op rd rs1 rs2) → instr_of (instr_word (Reg op rd rs1 rs2)) ≡ Some (Reg op rd rs1 rs2)
unfolding reg_at
reg_back op rd rs1 rs2 v =
    let r = reg_read op in
    let c = (reg_row op).codes in
    let k = i_fields c.opcode rd c.funct3 rs1 (rs2 + c.top * 32) r.0.0 v.0 r.0.1 v.1 in
    let l = reg_fields c.opcode rd c.funct3 rs1 rs2 c.top r.0.0 v.0 r.0.1 v.1 v.2 in
    r.2 _ k.0 ∙ rw (k.0, k.1, k.2, k.3, l.0, l.1, r.1) refl

-- a valid instruction is what its word stands for
pub read_back : (i : Instr) → IsValid i → instr_of (instr_word i) ≡ Some i
unfolding instr_of jalr_at fence_at
read_back (Upper op rd imm) v = upper_back op rd imm v
read_back (Jal rd offset) v =
    let k = j_fields JAL rd (field_of 1048576 offset) (lit< tt) v.0 (field_small 1048576 offset v.1.0) v.1.1 in
    rw (k.0, k.1, k.2, signed-field 1048576 offset v.1.0) refl
read_back (Jalr rd rs1 imm) v =
    let k = i_fields JALR rd 0 rs1 (field_of 2048 imm) (lit< tt) v.0 (lit< tt) v.1 in
    rw (k.0, k.1, k.2, k.3, k.4, signed-field 2048 imm v.2) refl
read_back (Branch op rs1 rs2 offset) v = branch_back op rs1 rs2 offset v
read_back (Load op rd rs1 imm) v = load_back op rd rs1 imm v
read_back (Store op rs1 rs2 imm) v = store_back op rs1 rs2 imm v
read_back (Imm op rd rs1 imm) v = imm_back op rd rs1 imm v
read_back (Shift op rd rs1 amount) v = shift_back op rd rs1 amount v
read_back (Reg op rd rs1 rs2) v = reg_back op rd rs1 rs2 v
read_back (Fence rd rs1 bits) v =
    let k = i_fields MISC_MEM rd 0 rs1 bits (lit< tt) v.0 (lit< tt) v.1 in
    rw (k.0, k.1, k.2, k.3, k.4) refl
read_back Ecall v = refl
read_back Ebreak v = refl
read_back PersistBarrier v = refl
read_back NewStrand v = refl
read_back JoinStrand v = refl
