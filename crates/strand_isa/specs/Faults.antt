-- Which field of an instruction is out of its range.
use Rattle.std.specs.Prelude.{ℕ, ◌%◌, ◌==◌, Bool, ◌&&◌, nat_lt, ℤ, pos, negsuc, Option, Some, None, if◌then◌else◌}
use Rattle.strand_isa.specs.declared.instr.Instr.{Instr}
use Rattle.strand_isa.specs.declared.instr.Instr.TheVariants.{Upper, Jal, Jalr, Branch, Load, Store, Imm, Shift, Reg, Fence}
use Rattle.strand_isa.specs.declared.fault.Field.{Field}
use Rattle.strand_isa.specs.declared.fault.Field.TheVariants.{Rd, Rs1, Rs2, Imm as ImmField, Offset, Amount, Bits}
use Rattle.strand_isa.specs.declared.fault.FieldFault.{FieldFault}
use Rattle.strand_isa.specs.Word.{field_of}
use Rattle.strand_isa.specs.Ops.{amount_bound}

abbrev pub fault_unless_below : Field → ℕ → ℕ → Option FieldFault
fault_unless_below field bound n = if nat_lt n bound then None else Some (record { field = field; value = pos n })

abbrev pub is_in_range : ℕ → ℤ → Bool
is_in_range h (pos n) = nat_lt n h
is_in_range h (negsuc n) = nat_lt n h

abbrev pub range_fault : Field → ℕ → ℤ → Option FieldFault
range_fault field h z = if is_in_range h z then None else Some (record { field = field; value = z })

abbrev pub even_range_fault : Field → ℕ → ℤ → Option FieldFault
even_range_fault field h z =
    if is_in_range h z && (field_of h z % 2 == 0) then None else Some (record { field = field; value = z })

-- the first fault of two
abbrev pub first_of : Option FieldFault → Option FieldFault → Option FieldFault
first_of (Some f) _ = Some f
first_of None g = g

-- the first field, in the order of the variant, that is out of its range
unfoldable pub fault_of : Instr → Option FieldFault
fault_of (Upper op rd imm) = first_of (fault_unless_below Rd 32 rd) (fault_unless_below ImmField 1048576 imm)
fault_of (Jal rd offset) = first_of (fault_unless_below Rd 32 rd) (even_range_fault Offset 1048576 offset)
fault_of (Jalr rd rs1 imm) = first_of (first_of (fault_unless_below Rd 32 rd) (fault_unless_below Rs1 32 rs1)) (range_fault ImmField 2048 imm)
fault_of (Branch op rs1 rs2 offset) =
    first_of (first_of (fault_unless_below Rs1 32 rs1) (fault_unless_below Rs2 32 rs2)) (even_range_fault Offset 4096 offset)
fault_of (Load op rd rs1 imm) =
    first_of (first_of (fault_unless_below Rd 32 rd) (fault_unless_below Rs1 32 rs1)) (range_fault ImmField 2048 imm)
fault_of (Store op rs1 rs2 imm) =
    first_of (first_of (fault_unless_below Rs1 32 rs1) (fault_unless_below Rs2 32 rs2)) (range_fault ImmField 2048 imm)
fault_of (Imm op rd rs1 imm) =
    first_of (first_of (fault_unless_below Rd 32 rd) (fault_unless_below Rs1 32 rs1)) (range_fault ImmField 2048 imm)
fault_of (Shift op rd rs1 amount) =
    first_of (first_of (fault_unless_below Rd 32 rd) (fault_unless_below Rs1 32 rs1)) (fault_unless_below Amount (amount_bound op) amount)
fault_of (Reg op rd rs1 rs2) =
    first_of (first_of (fault_unless_below Rd 32 rd) (fault_unless_below Rs1 32 rs1)) (fault_unless_below Rs2 32 rs2)
fault_of (Fence rd rs1 bits) =
    first_of (first_of (fault_unless_below Rd 32 rd) (fault_unless_below Rs1 32 rs1)) (fault_unless_below Bits 4096 bits)
fault_of _ = None
