-- The text of each instruction: its word, and behind a space its operands with a comma and a space between.
use Rattle.std.specs.Prelude.{ℤ, ◌≡◌, ℕ, ◌==◌, Bool, true, false, List, [], ◌∷◌, ◌++◌, drop, min, not, Option, Some, None, Result, Ok, Err, if◌then◌else◌}
use Rattle.std.specs.Fmt.{decimal, signed_decimal}
use lib.Chars.{codes}
use Rattle.std.specs.List.{position_or_len}
use Rattle.strand_base.specs.Hexadecimal.{hex16}
use Rattle.strand_base.specs.Puts.{AppendsFront}
use Rattle.strand_isa.specs.Word.{instr_word}
use Rattle.strand_isa.specs.declared.printing.Part.{Part}
use Rattle.strand_isa.specs.declared.printing.Part.TheVariants.{Register, Upper as Field, Number, Memory}
use Rattle.strand_isa.specs.declared.instr.Instr.{Instr}
use Rattle.strand_isa.specs.declared.instr.Instr.TheVariants.{Upper, Jal, Jalr, Branch, Load, Store, Imm, Shift, Reg, Fence, Ecall, Ebreak, PersistBarrier, NewStrand, JoinStrand}
use Rattle.strand_isa.specs.Ops.{branch_row, imm_row, load_row, reg_row, shift_row, store_row, upper_row}

-- the hexadecimal digits of a number, without leading zeros
unfoldable pub short_hex : ℕ → List ℕ
short_hex n = drop (min (position_or_len (λ d. not (d == 48)) (hex16 n)) 15) (hex16 n)

-- operands: a register, the field of an upper immediate, and a place in memory
abbrev pub register_text : ℕ → List ℕ
register_text n = 120 ∷ decimal n

abbrev pub field_text : ℕ → List ℕ
field_text n = 48 ∷ 120 ∷ short_hex n

abbrev pub memory_text : ℤ → ℕ → List ℕ
memory_text offset base = signed_decimal offset ++ 40 ∷ 120 ∷ (decimal base ++ 41 ∷ [])

abbrev pub part_text : Part → List ℕ
part_text (Register n) = register_text n
part_text (Field n) = field_text n
part_text (Number z) = signed_decimal z
part_text (Memory offset base) = memory_text offset base

abbrev pub one : List ℕ → List ℕ → List ℕ
one name a = name ++ 32 ∷ a

abbrev pub two : List ℕ → List ℕ → List ℕ → List ℕ
two name a b = one name a ++ 44 ∷ 32 ∷ b

abbrev pub three : List ℕ → List ℕ → List ℕ → List ℕ → List ℕ
three name a b c = two name a b ++ 44 ∷ 32 ∷ c

-- None where no text stands for the instruction: a fence other than the one that 'fence' is
unfoldable pub instr_text : Instr → Option (List ℕ)
instr_text (Upper op rd imm) = Some (two (upper_row op).name (register_text rd) (field_text imm))
instr_text (Jal rd offset) = Some (two (codes "jal") (register_text rd) (signed_decimal offset))
instr_text (Jalr rd rs1 imm) = Some (two (codes "jalr") (register_text rd) (memory_text imm rs1))
instr_text (Branch op rs1 rs2 offset) = Some (three (branch_row op).name (register_text rs1) (register_text rs2) (signed_decimal offset))
instr_text (Load op rd rs1 imm) = Some (two (load_row op).name (register_text rd) (memory_text imm rs1))
instr_text (Store op rs1 rs2 imm) = Some (two (store_row op).name (register_text rs2) (memory_text imm rs1))
instr_text (Imm op rd rs1 imm) = Some (three (imm_row op).name (register_text rd) (register_text rs1) (signed_decimal imm))
instr_text (Shift op rd rs1 amount) = Some (three (shift_row op).name (register_text rd) (register_text rs1) (decimal amount))
instr_text (Reg op rd rs1 rs2) = Some (three (reg_row op).name (register_text rd) (register_text rs1) (register_text rs2))
instr_text (Fence rd rs1 bits) = if instr_word (Fence rd rs1 bits) == 0x0ff0000f then Some (codes "fence") else None
instr_text Ecall = Some (codes "ecall")
instr_text Ebreak = Some (codes "ebreak")
instr_text PersistBarrier = Some (codes "persistbarrier")
instr_text NewStrand = Some (codes "newstrand")
instr_text JoinStrand = Some (codes "joinstrand")

-- The text is appended and the answer is true, or there is none and nothing is appended; or memory ran out.
abbrev pub Prints : {E : Type 0} → Result Bool E → Option (List ℕ) → List ℕ → List ℕ → Type 0
Prints (Ok printed) (Some text) old new = (printed ≡ true) × (new ≡ old ++ text)
Prints (Ok printed) None old new = (printed ≡ false) × (new ≡ old)
Prints (Err e) (Some text) old new = AppendsFront text old new
Prints (Err e) None old new = ⊥
