-- The first words of instructions, and what is due at each place behind them.
use Rattle.std.specs.Prelude.{ℕ, ◌+◌, List, [], ◌∷◌, Option}
use Rattle.std.specs.List.{find}
use Rattle.std.specs.Option.{option_map, option_or}
use Rattle.std.specs.Str.{bytes_eq}
use lib.Chars.{codes}
use Rattle.strand_isa.specs.Ops.{upper_named, branch_named, load_named, store_named, imm_named, shift_named, reg_named}
use Rattle.strand_asm_lines.specs.declared.mnemonic.Mnemonic.{Mnemonic}
use Rattle.strand_asm_lines.specs.declared.mnemonic.Mnemonic.TheVariants.{Upper, Jal, Jalr, Branch, Load, Store, Imm, Shift, Reg, Fence, Ecall, Ebreak, PersistBarrier, NewStrand, JoinStrand, Nop, Ret, Mv, Li, La, J}
use Rattle.strand_asm_lines.specs.declared.table.Due.{Due}
use Rattle.strand_asm_lines.specs.declared.table.Due.TheVariants.{Nothing, Register, Number, Target, Label, Memory}
use Rattle.strand_asm_lines.specs.declared.table.Form.{Form}

-- what is due at each of three places
abbrev pub due_form : Due → Due → Due → Form
due_form first second third = record { first = first; second = second; third = third }

-- what is due behind the word of an instruction: nothing, where no line says it
abbrev pub form_of : Mnemonic → Form
form_of (Upper op) = due_form Register Number Nothing
form_of Jal = due_form Register Target Nothing
form_of Jalr = due_form Register Memory Nothing
form_of (Branch op) = due_form Register Register Target
form_of (Load op) = due_form Register Memory Nothing
form_of (Store op) = due_form Register Memory Nothing
form_of (Imm op) = due_form Register Register Number
form_of (Shift op) = due_form Register Register Number
form_of (Reg op) = due_form Register Register Register
form_of Mv = due_form Register Register Nothing
form_of Li = due_form Register Number Nothing
form_of La = due_form Register Label Nothing
form_of J = due_form Target Nothing Nothing
form_of _ = due_form Nothing Nothing Nothing

-- the first of two that is there
infixl 10 ◌or◌
abbrev pub ◌or◌ : {A : Type 0} → Option A → Option A → Option A
x or y = option_or x y

-- the operation that a word names
unfoldable pub operation_of : List ℕ → Option Mnemonic
operation_of w =
    option_map (λ op. Upper op) (upper_named w) or option_map (λ op. Branch op) (branch_named w)
    or option_map (λ op. Load op) (load_named w) or option_map (λ op. Store op) (store_named w)
    or option_map (λ op. Imm op) (imm_named w) or option_map (λ op. Shift op) (shift_named w)
    or option_map (λ op. Reg op) (reg_named w)

-- the mnemonic of the first row that has a word
abbrev pub named_among : List (List ℕ × Mnemonic) → List ℕ → Option Mnemonic
named_among rows w = option_map (λ row. row.1) (find (λ row. bytes_eq row.0 w) rows)

-- the words that name no operation, each with its mnemonic
abbrev pub other_words : List (List ℕ × Mnemonic)
other_words =
    (codes "jal", Jal) ∷
    (codes "jalr", Jalr) ∷
    (codes "fence", Fence) ∷
    (codes "ecall", Ecall) ∷
    (codes "ebreak", Ebreak) ∷
    (codes "persistbarrier", PersistBarrier) ∷
    (codes "newstrand", NewStrand) ∷
    (codes "joinstrand", JoinStrand) ∷
    (codes "nop", Nop) ∷
    (codes "ret", Ret) ∷
    (codes "mv", Mv) ∷
    (codes "li", Li) ∷
    (codes "la", La) ∷
    (codes "j", J) ∷ []

-- the mnemonic of a word that names no operation
abbrev pub other_of : List ℕ → Option Mnemonic
other_of w = named_among other_words w

-- the mnemonic of a word
unfoldable pub mnemonic_of : List ℕ → Option Mnemonic
mnemonic_of w = operation_of w or other_of w

-- how many operands are due at a place
abbrev pub place_count : Due → ℕ
place_count Nothing = 0
place_count Register = 1
place_count Number = 1
place_count Target = 1
place_count Label = 1
place_count Memory = 1

-- how many operands are due
abbrev pub due_count : Form → ℕ
due_count f = place_count f.first + place_count f.second + place_count f.third
