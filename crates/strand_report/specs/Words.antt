-- The words of a memory, as lines.
use Rattle.std.specs.Prelude.{ℕ, ◌+◌, ◌*◌, List, [], ◌∷◌, ◌++◌, ◌==◌, if◌then◌else◌}
use lib.Chars.{codes}
use Rattle.strand_base.specs.declared.regions.TheConstants.{PERSISTENT_BASE, VOLATILE_BASE}
use Rattle.strand_base.specs.Hexadecimal.{hex16}
use Rattle.strand_base.specs.Text.{line_text}
use Rattle.strand_exec.specs.Memory.{Memory}
use Rattle.strand_report.specs.Numbered.{numbered_texts}

-- "NAME H H", address and value, for a word that is not 0, where the first word is at base
abbrev pub word_line : List ℕ → ℕ → ℕ → ℕ → List ℕ
word_line name base place w =
    if w == 0 then [] else line_text (name ∷ hex16 (base + 8 * place) ∷ hex16 w ∷ [])

-- the words that the modules hold
abbrev pub held_lines : List ℕ → List ℕ
held_lines held = numbered_texts (word_line (codes "pm") PERSISTENT_BASE) held

-- the words that the cores see: the volatile ones, then the persistent ones
abbrev pub visible_lines : Memory → List ℕ
visible_lines memory =
    numbered_texts (word_line (codes "vis") VOLATILE_BASE) memory.volatile
    ++ numbered_texts (word_line (codes "vis") PERSISTENT_BASE) memory.persistent
