-- Serves clause again of list: every instruction that has a text is read from it.
use Rattle.std.proofs.Common.{◌≡◌, ℕ, ◌+◌, ◌*◌, ◌^◌, ◌<◌, ◌≤◌, Bool, true, false, cond, List, Some, None, refl, subst, arith}
use Rattle.std.specs.Prelude.{◌==◌, ℤ, pos, negsuc}
use Rattle.std.specs.Fmt.{decimal, signed_decimal}
use Rattle.std.proofs.lemmas.Bool.{eqb-true}
use lib.Chars.{codes}
use Rattle.strand_base.specs.Text.{words_of, pieces_of}
use Rattle.strand_isa.specs.Ops.{amount_bound, op_named, upper_row, branch_row, load_row, store_row, imm_row, shift_row, reg_row}
use Rattle.strand_isa.specs.Word.{IsEvenWithin, IsValid, IsInRange, instr_word}
use Rattle.strand_isa.specs.Print.{field_text, instr_text, memory_text, register_text, three, two}
use Rattle.strand_isa.specs.declared.instr.Instr.{Instr}
use Rattle.strand_isa.specs.declared.instr.Instr.TheVariants as instrs
use Rattle.strand_isa.specs.declared.ops.UpperOp.{UpperOp}
use Rattle.strand_isa.specs.declared.ops.BranchOp.{BranchOp}
use Rattle.strand_isa.specs.declared.ops.LoadOp.{LoadOp}
use Rattle.strand_isa.specs.declared.ops.StoreOp.{StoreOp}
use Rattle.strand_isa.specs.declared.ops.ImmOp.{ImmOp}
use Rattle.strand_isa.specs.declared.ops.ShiftOp.{ShiftOp}
use Rattle.strand_isa.specs.declared.ops.RegOp.{RegOp}
use Rattle.strand_asm_lines.specs.Bytes.{from_first}
use Rattle.strand_asm_lines.specs.Table.{mnemonic_of, operation_of}
use Rattle.strand_asm_lines.specs.Line.{body_by, directive_of, instruction_of}
use Rattle.strand_asm_lines.specs.declared.mnemonic.Mnemonic.TheVariants.{Fence, Ecall, Ebreak, PersistBarrier, NewStrand, JoinStrand}
use Rattle.strand_asm_lines.specs.declared.line.Operand.TheVariants as operands
use Rattle.strand_asm.specs.Encode.{coded, offset_to}
use Rattle.strand_asm.proofs.ListAgain.Tokens.{IsNumber}
use Rattle.strand_asm.proofs.ListAgain.Operands.{field_operand, field_solid, memory_operand, memory_solid, number_operand, number_solid, register_operand, register_solid, target_operand}
use Rattle.strand_asm.proofs.ListAgain.Mnemonics.{jal_word, jalr_word, upper_word, branch_word, load_word, store_word, imm_word, shift_word, reg_word}
use Rattle.strand_asm.proofs.ListAgain.Forms.{ReadsAs, below_fits, even_fits, one_as, three_as, two_as, within_fits}

within_number : (half : ℕ) (z : ℤ) → half ≤ 2 ^ 63 → IsInRange half z → IsNumber z
within_number half (pos n) le lt = omega (arith, le, lt)
within_number half (negsuc n) le lt = omega (arith, le, lt)

upper_reads : (op : UpperOp) (rd imm : ℕ) → rd < 32 → imm < 1048576 → ReadsAs (two (upper_row op).name (register_text rd) (field_text imm)) (instrs.Upper op rd imm)
unfolding coded
upper_reads op rd imm d lt =
    let n : imm < 2 ^ 64 = omega (arith, lt) in
    two_as (upper_word op) (register_text rd) (field_text imm) (operands.Reg rd) (operands.Num (pos imm)) (instrs.Upper op rd imm) (register_solid rd d) (field_solid imm n) refl
    (register_operand rd d) (field_operand imm n) refl refl (λ labels site. rw (below_fits imm 1048576 lt) refl)

jal_reads : (rd : ℕ) (z : ℤ) → rd < 32 → IsEvenWithin 1048576 z → ReadsAs (two (codes "jal") (register_text rd) (signed_decimal z)) (instrs.Jal rd z)
unfolding coded offset_to
jal_reads rd z d even =
    let n = within_number 1048576 z (omega arith) even.0 in
    two_as jal_word (register_text rd) (signed_decimal z) (operands.Reg rd) (operands.Num z) (instrs.Jal rd z) (register_solid rd d) (number_solid z n) refl
    (register_operand rd d) (target_operand z n) refl refl (λ labels site. rw (even_fits 1048576 z even) refl)

branch_reads : (op : BranchOp) (rs1 rs2 : ℕ) (z : ℤ) → rs1 < 32 → rs2 < 32 → IsEvenWithin 4096 z
    → ReadsAs (three (branch_row op).name (register_text rs1) (register_text rs2) (signed_decimal z)) (instrs.Branch op rs1 rs2 z)
unfolding coded offset_to
branch_reads op rs1 rs2 z s t even =
    let n = within_number 4096 z (omega arith) even.0 in
    three_as (branch_word op) (register_text rs1) (register_text rs2) (signed_decimal z) (operands.Reg rs1) (operands.Reg rs2) (operands.Num z) (instrs.Branch op rs1 rs2 z)
    (register_solid rs1 s) (register_solid rs2 t) (number_solid z n) refl (register_operand rs1 s) (register_operand rs2 t) (target_operand z n) refl
    (λ labels site. rw (even_fits 4096 z even) refl)

jalr_reads : (rd rs1 : ℕ) (z : ℤ) → rd < 32 → rs1 < 32 → IsInRange 2048 z → ReadsAs (two (codes "jalr") (register_text rd) (memory_text z rs1)) (instrs.Jalr rd rs1 z)
unfolding coded
jalr_reads rd rs1 z d s w =
    let n = within_number 2048 z (omega arith) w in
    two_as jalr_word (register_text rd) (memory_text z rs1) (operands.Reg rd) (operands.Mem z rs1) (instrs.Jalr rd rs1 z) (register_solid rd d) (memory_solid z rs1 n s) refl
    (register_operand rd d) (memory_operand z rs1 n s) refl refl (λ labels site. rw (within_fits 2048 z w) refl)

load_reads : (op : LoadOp) (rd rs1 : ℕ) (z : ℤ) → rd < 32 → rs1 < 32 → IsInRange 2048 z
    → ReadsAs (two (load_row op).name (register_text rd) (memory_text z rs1)) (instrs.Load op rd rs1 z)
unfolding coded
load_reads op rd rs1 z d s w =
    let n = within_number 2048 z (omega arith) w in
    two_as (load_word op) (register_text rd) (memory_text z rs1) (operands.Reg rd) (operands.Mem z rs1) (instrs.Load op rd rs1 z) (register_solid rd d) (memory_solid z rs1 n s) refl
    (register_operand rd d) (memory_operand z rs1 n s) refl refl (λ labels site. rw (within_fits 2048 z w) refl)

store_reads : (op : StoreOp) (rs1 rs2 : ℕ) (z : ℤ) → rs1 < 32 → rs2 < 32 → IsInRange 2048 z
    → ReadsAs (two (store_row op).name (register_text rs2) (memory_text z rs1)) (instrs.Store op rs1 rs2 z)
unfolding coded
store_reads op rs1 rs2 z s t w =
    let n = within_number 2048 z (omega arith) w in
    two_as (store_word op) (register_text rs2) (memory_text z rs1) (operands.Reg rs2) (operands.Mem z rs1) (instrs.Store op rs1 rs2 z) (register_solid rs2 t) (memory_solid z rs1 n s) refl
    (register_operand rs2 t) (memory_operand z rs1 n s) refl refl (λ labels site. rw (within_fits 2048 z w) refl)

imm_reads : (op : ImmOp) (rd rs1 : ℕ) (z : ℤ) → rd < 32 → rs1 < 32 → IsInRange 2048 z
    → ReadsAs (three (imm_row op).name (register_text rd) (register_text rs1) (signed_decimal z)) (instrs.Imm op rd rs1 z)
unfolding coded
imm_reads op rd rs1 z d s w =
    let n = within_number 2048 z (omega arith) w in
    three_as (imm_word op) (register_text rd) (register_text rs1) (signed_decimal z) (operands.Reg rd) (operands.Reg rs1) (operands.Num z) (instrs.Imm op rd rs1 z)
    (register_solid rd d) (register_solid rs1 s) (number_solid z n) refl (register_operand rd d) (register_operand rs1 s) (number_operand z n) refl
    (λ labels site. rw (within_fits 2048 z w) refl)

small_bound : (b : Bool) (n : ℕ) → n < cond b 32 64 → n < 2 ^ 64
small_bound true n lt = omega (arith, lt)
small_bound false n lt = omega (arith, lt)

shift_reads : (op : ShiftOp) (rd rs1 amount : ℕ) → rd < 32 → rs1 < 32 → amount < amount_bound op
    → ReadsAs (three (shift_row op).name (register_text rd) (register_text rs1) (decimal amount)) (instrs.Shift op rd rs1 amount)
unfolding coded
shift_reads op rd rs1 amount d s lt =
    let n = small_bound _ amount lt in
    three_as (shift_word op) (register_text rd) (register_text rs1) (decimal amount) (operands.Reg rd) (operands.Reg rs1) (operands.Num (pos amount)) (instrs.Shift op rd rs1 amount)
    (register_solid rd d) (register_solid rs1 s) (number_solid (pos amount) n) refl (register_operand rd d) (register_operand rs1 s) (number_operand (pos amount) n) refl
    (λ labels site. rw (below_fits amount (amount_bound op) lt) refl)

reg_reads : (op : RegOp) (rd rs1 rs2 : ℕ) → rd < 32 → rs1 < 32 → rs2 < 32
    → ReadsAs (three (reg_row op).name (register_text rd) (register_text rs1) (register_text rs2)) (instrs.Reg op rd rs1 rs2)
unfolding coded
reg_reads op rd rs1 rs2 d s t =
    three_as (reg_word op) (register_text rd) (register_text rs1) (register_text rs2) (operands.Reg rd) (operands.Reg rs1) (operands.Reg rs2) (instrs.Reg op rd rs1 rs2)
    (register_solid rd d) (register_solid rs1 s) (register_solid rs2 t) refl (register_operand rd d) (register_operand rs1 s) (register_operand rs2 t) refl (λ labels site. refl)

fence_reads : ReadsAs (codes "fence") (instrs.Fence 0 0 255)
unfolding body_by directive_of from_first mnemonic_of operation_of op_named instruction_of words_of pieces_of coded
fence_reads = one_as (codes "fence") Fence (instrs.Fence 0 0 255) refl refl refl (λ labels site. refl)

some_inside : (s t : List ℕ) → Some s ≡ Some t → s ≡ t
some_inside s t e = cc

is_fence : (b : Bool) (text : List ℕ) → cond b (Some (codes "fence")) None ≡ Some text → (b ≡ true) × (codes "fence" ≡ text)
is_fence true text e = (refl, some_inside _ text e)
is_fence false text e = absurd cc

from_text : (s text : List ℕ) (i : Instr) → ReadsAs s i → Some s ≡ Some text → ReadsAs text i
from_text s text i h e = subst (λ (t : List ℕ). ReadsAs t i) (some_inside s text e) h

pub instr_reads : (i : Instr) (text : List ℕ) → IsValid i → instr_text i ≡ Some text → ReadsAs text i
unfolding instr_text body_by directive_of from_first mnemonic_of operation_of op_named instruction_of words_of pieces_of coded
instr_reads (instrs.Upper op rd imm) text v e = from_text _ text _ (upper_reads op rd imm v.0 v.1) e
instr_reads (instrs.Jal rd z) text v e = from_text _ text _ (jal_reads rd z v.0 v.1) e
instr_reads (instrs.Jalr rd rs1 z) text v e = from_text _ text _ (jalr_reads rd rs1 z v.0 v.1 v.2) e
instr_reads (instrs.Branch op rs1 rs2 z) text v e = from_text _ text _ (branch_reads op rs1 rs2 z v.0 v.1 v.2) e
instr_reads (instrs.Load op rd rs1 z) text v e = from_text _ text _ (load_reads op rd rs1 z v.0 v.1 v.2) e
instr_reads (instrs.Store op rs1 rs2 z) text v e = from_text _ text _ (store_reads op rs1 rs2 z v.0 v.1 v.2) e
instr_reads (instrs.Imm op rd rs1 z) text v e = from_text _ text _ (imm_reads op rd rs1 z v.0 v.1 v.2) e
instr_reads (instrs.Shift op rd rs1 amount) text v e = from_text _ text _ (shift_reads op rd rs1 amount v.0 v.1 v.2) e
instr_reads (instrs.Reg op rd rs1 rs2) text v e = from_text _ text _ (reg_reads op rd rs1 rs2 v.0 v.1 v.2) e
instr_reads (instrs.Fence rd rs1 bits) text v e =
    let f = is_fence (instr_word (instrs.Fence rd rs1 bits) == 0x0ff0000f) text e in
    let word : 0b0001111 + rd * 128 + 0 * 4096 + rs1 * 32768 + bits * 1048576 ≡ 0x0ff0000f = eqb-true _ _ f.0 in
    let d : rd ≡ 0 = omega (arith, word, v.0, v.1, v.2) in
    let s : rs1 ≡ 0 = omega (arith, word, v.0, v.1, v.2) in
    let b : bits ≡ 255 = omega (arith, word, v.0, v.1, v.2) in
    rw (d, s, b) (subst (λ (t : List ℕ). ReadsAs t (instrs.Fence 0 0 255)) f.1 fence_reads)
instr_reads instrs.Ecall text v e = from_text _ text _ (one_as (codes "ecall") Ecall instrs.Ecall refl refl refl (λ labels site. refl)) e
instr_reads instrs.Ebreak text v e = from_text _ text _ (one_as (codes "ebreak") Ebreak instrs.Ebreak refl refl refl (λ labels site. refl)) e
instr_reads instrs.PersistBarrier text v e = from_text _ text _ (one_as (codes "persistbarrier") PersistBarrier instrs.PersistBarrier refl refl refl (λ labels site. refl)) e
instr_reads instrs.NewStrand text v e = from_text _ text _ (one_as (codes "newstrand") NewStrand instrs.NewStrand refl refl refl (λ labels site. refl)) e
instr_reads instrs.JoinStrand text v e = from_text _ text _ (one_as (codes "joinstrand") JoinStrand instrs.JoinStrand refl refl refl (λ labels site. refl)) e
