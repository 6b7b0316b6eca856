-- The instruction table of RV64I and the persist instructions: what each instruction does, before any trap is tried.
use Rattle.std.specs.Prelude.{ℕ, ◌+◌, ◌*◌, ◌/◌, ◌%◌, ◌^◌, ℤ, if◌then◌else◌}
use Rattle.strand_isa.specs.declared.instr.Instr.{Instr}
use Rattle.strand_isa.specs.declared.instr.Instr.TheVariants.{Upper, Jal, Jalr, Branch, Load, Store, Imm, Shift, Reg, Fence, Ecall, Ebreak, PersistBarrier, NewStrand, JoinStrand}
use Rattle.strand_exec.specs.declared.effect.Effect.{Effect}
use Rattle.strand_exec.specs.declared.effect.Effect.TheVariants.{Write, Jump, Goto, LoadFrom, StoreTo, Barrier, BeginStrand, Join, Call, Halt, Nothing}
use Rattle.strand_exec.specs.Arith.{imm_value, is_taken, reg_value, residue, shift_value, upper_value}
use Rattle.strand_exec.specs.Core.{Core, next_pc, reg}

-- the address, modulo 2 ^ 64, of a register's value plus a signed number
abbrev pub plus : ℕ → ℤ → ℕ
plus a i = (a + residue i) % 2 ^ 64

unfoldable pub row : Core → Instr → Effect
row c (Upper op rd imm) = Write rd (upper_value op c.pc imm)
row c (Jal rd offset) = Jump rd (next_pc c) (plus c.pc offset)
row c (Jalr rd rs1 imm) = Jump rd (next_pc c) (plus (reg c rs1) imm / 2 * 2)
row c (Branch op rs1 rs2 offset) =
    if is_taken op (reg c rs1) (reg c rs2) then Goto (plus c.pc offset) else Nothing
row c (Load op rd rs1 imm) = LoadFrom op rd (plus (reg c rs1) imm)
row c (Store op rs1 rs2 imm) = StoreTo op (plus (reg c rs1) imm) (reg c rs2)
row c (Imm op rd rs1 imm) = Write rd (imm_value op (reg c rs1) (residue imm))
row c (Shift op rd rs1 amount) = Write rd (shift_value op (reg c rs1) amount)
row c (Reg op rd rs1 rs2) = Write rd (reg_value op (reg c rs1) (reg c rs2))
row c (Fence rd rs1 bits) = Nothing
row c Ecall = Call (reg c 17) (reg c 10)
row c Ebreak = Halt
row c PersistBarrier = Barrier
row c NewStrand = BeginStrand
row c JoinStrand = Join
