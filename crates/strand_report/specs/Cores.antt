-- The cores and their registers, as lines.
use Rattle.std.specs.Prelude.{ℕ, List, [], ◌∷◌, ◌++◌, ◌==◌, if◌then◌else◌}
use Rattle.std.specs.Fmt.{decimal}
use lib.Chars.{codes}
use Rattle.strand_base.specs.Hexadecimal.{hex16}
use Rattle.strand_base.specs.Text.{line_text}
use Rattle.strand_exec.specs.Core.{Core}
use Rattle.strand_exec.specs.declared.life.Life.{Life}
use Rattle.strand_exec.specs.declared.life.Life.TheVariants.{Running, Halted, Trapped}
use Rattle.strand_exec.specs.declared.life.Trap.{Trap}
use Rattle.strand_exec.specs.declared.life.Trap.TheVariants.{Fetch, Target, Illegal, Misaligned, Access, Call}
use Rattle.strand_report.specs.Numbered.{numbered_texts}

abbrev pub trap_words : Trap → List (List ℕ)
trap_words Fetch = codes "fetch" ∷ []
trap_words (Target at) = codes "target" ∷ hex16 at ∷ []
trap_words Illegal = codes "illegal" ∷ []
trap_words (Misaligned at) = codes "misaligned" ∷ hex16 at ∷ []
trap_words (Access at) = codes "access" ∷ hex16 at ∷ []
trap_words (Call number) = codes "call" ∷ hex16 number ∷ []

abbrev pub life_words : Life → List (List ℕ)
life_words Running = codes "running" ∷ []
life_words Halted = codes "halted" ∷ []
life_words (Trapped trap) = codes "trap" ∷ trap_words trap

-- "core N pc H LIFE"
abbrev pub core_line : ℕ → Core → List ℕ
core_line n core =
    line_text (codes "core" ∷ decimal n ∷ codes "pc" ∷ hex16 core.pc ∷ life_words core.life)

-- "reg N xR H", for a register of core N that is not 0
abbrev pub reg_line : ℕ → ℕ → ℕ → List ℕ
reg_line n r w =
    if w == 0 then [] else line_text (codes "reg" ∷ decimal n ∷ (codes "x" ++ decimal r) ∷ hex16 w ∷ [])

-- a core and its registers
abbrev pub core_lines : ℕ → Core → List ℕ
core_lines n core = core_line n core ++ numbered_texts (reg_line n) core.regs
