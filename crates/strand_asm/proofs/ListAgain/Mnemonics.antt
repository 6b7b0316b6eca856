-- Serves clause again of list: a line that begins with the word of an instruction.
use Rattle.std.proofs.Common.{◌≡◌, List, ◌∷◌, ◌++◌, ℕ, refl, arith}
use lib.Chars.{codes}
use Rattle.strand_isa.specs.Ops.{op_named, upper_row, branch_row, load_row, store_row, imm_row, shift_row, reg_row}
use Rattle.strand_isa.specs.declared.ops.UpperOp.{UpperOp}
use Rattle.strand_isa.specs.declared.ops.BranchOp.{BranchOp}
use Rattle.strand_isa.specs.declared.ops.LoadOp.{LoadOp}
use Rattle.strand_isa.specs.declared.ops.StoreOp.{StoreOp}
use Rattle.strand_isa.specs.declared.ops.ImmOp.{ImmOp}
use Rattle.strand_isa.specs.declared.ops.ShiftOp.{ShiftOp}
use Rattle.strand_isa.specs.declared.ops.RegOp.{RegOp}
use Rattle.strand_asm_lines.specs.Bytes.{from_first}
use Rattle.strand_asm_lines.specs.Table.{form_of, mnemonic_of, operation_of}
use Rattle.strand_asm_lines.specs.Line.{body_by, body_of, directive_of, instruction_of}
use Rattle.strand_asm_lines.specs.declared.mnemonic.Mnemonic.{Mnemonic}
use Rattle.strand_asm_lines.specs.declared.mnemonic.Mnemonic.TheVariants.{Upper, Jal, Jalr, Branch, Load, Store, Imm, Shift, Reg}
use Rattle.strand_asm.proofs.ListAgain.Lines.{IsText}

-- the word of a mnemonic: it shows, and behind it and a blank the operands are read
pub record IsWordOf (word : List ℕ) (op : Mnemonic) : Type 0 where
  pub text : IsText word
  pub begins : (rest : List ℕ) → body_of (word ++ 32 ∷ rest) ≡ instruction_of op (form_of op) (32 ∷ rest)

pub jal_word : IsWordOf (codes "jal") Jal
unfolding body_by directive_of from_first mnemonic_of operation_of op_named
jal_word = record { text = refl; begins = λ rest. refl }

pub jalr_word : IsWordOf (codes "jalr") Jalr
unfolding body_by directive_of from_first mnemonic_of operation_of op_named
jalr_word = record { text = refl; begins = λ rest. refl }

-- each operation's name, whichever it is
pub upper_word : (op : UpperOp) → IsWordOf (upper_row op).name (Upper op)
unfolding body_by directive_of from_first mnemonic_of operation_of op_named
upper_word op = record { text = grind arith; begins = λ rest. grind arith }

pub branch_word : (op : BranchOp) → IsWordOf (branch_row op).name (Branch op)
unfolding body_by directive_of from_first mnemonic_of operation_of op_named
branch_word op = record { text = grind arith; begins = λ rest. grind arith }

pub load_word : (op : LoadOp) → IsWordOf (load_row op).name (Load op)
unfolding body_by directive_of from_first mnemonic_of operation_of op_named
load_word op = record { text = grind arith; begins = λ rest. grind arith }

pub store_word : (op : StoreOp) → IsWordOf (store_row op).name (Store op)
unfolding body_by directive_of from_first mnemonic_of operation_of op_named
store_word op = record { text = grind arith; begins = λ rest. grind arith }

pub imm_word : (op : ImmOp) → IsWordOf (imm_row op).name (Imm op)
unfolding body_by directive_of from_first mnemonic_of operation_of op_named
imm_word op = record { text = grind arith; begins = λ rest. grind arith }

pub shift_word : (op : ShiftOp) → IsWordOf (shift_row op).name (Shift op)
unfolding body_by directive_of from_first mnemonic_of operation_of op_named
shift_word op = record { text = grind arith; begins = λ rest. grind arith }

pub reg_word : (op : RegOp) → IsWordOf (reg_row op).name (Reg op)
unfolding body_by directive_of from_first mnemonic_of operation_of op_named
reg_word op = record { text = grind arith; begins = λ rest. grind arith }
