-- What an operand gives at its place. An operand of another form never stands there, and gives 0.
use Rattle.std.specs.Prelude.{ℕ, ◌==◌, ◌&&◌, nat_lt, ℤ, pos, negsuc, ◌%◌, ◌+◌, ◌-◌, ◌*◌, Option, Some, None, if◌then◌else◌}
use Rattle.strand_isa.specs.Word.{field_of}
use Rattle.strand_isa.specs.Faults.{is_in_range}
use Rattle.strand_asm_lines.specs.declared.line.Operand.{Operand}
use Rattle.strand_asm_lines.specs.declared.line.Operand.TheVariants.{Absent, Reg, Num, Label, Mem}

-- a register, or the base of a place in memory
abbrev pub register : Operand → ℕ
register Absent = 0
register (Reg n) = n
register (Num z) = 0
register (Label name) = 0
register (Mem offset base) = base

-- a number, or the offset of a place in memory
abbrev pub number : Operand → ℤ
number Absent = pos 0
number (Reg n) = pos 0
number (Num z) = z
number (Label name) = pos 0
number (Mem offset base) = offset

-- a number below a bound
abbrev pub natural_below : ℕ → ℤ → Option ℕ
natural_below bound (pos n) = if nat_lt n bound then Some n else None
natural_below bound (negsuc n) = None

-- a number from -half to half - 1
abbrev pub signed : ℕ → ℤ → Option ℤ
signed half z = if is_in_range half z then Some z else None

-- an even one
abbrev pub even : ℕ → ℤ → Option ℤ
even half z = if is_in_range half z && (field_of half z % 2 == 0) then Some z else None

-- a number from -half to 2 * half - 1, modulo 2 * half
abbrev pub wrapped : ℕ → ℤ → Option ℕ
wrapped half (pos n) = if nat_lt n (2 * half) then Some n else None
wrapped half (negsuc n) = if nat_lt n half then Some (2 * half - (n + 1)) else None
