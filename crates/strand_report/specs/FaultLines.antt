-- The lines of words that are no command, of a file that does not come, and of a module that refuses. Files are
-- numbered from 1 in the order in which a command names them, modules from 0 and steps from 1.
use Rattle.std.specs.Prelude.{ℕ, List, [], ◌∷◌}
use Rattle.std.specs.Fmt.{decimal}
use lib.Chars.{codes}
use Rattle.strand_base.specs.Text.{line_text}
use Rattle.strand_report.specs.declared.module_fault.ModuleFault.{ModuleFault}
use Rattle.strand_report.specs.declared.module_fault.ModulePhase.{ModulePhase}
use Rattle.strand_report.specs.declared.module_fault.ModulePhase.TheVariants.{Fill, Step, Read}

-- "fault words": the words are no command
abbrev pub words_fault : List ℕ
words_fault = line_text (codes "fault" ∷ codes "words" ∷ [])

-- "fault file K": file K could not be fetched
abbrev pub file_fault : ℕ → List ℕ
file_fault file = line_text (codes "fault" ∷ codes "file" ∷ decimal file ∷ [])

abbrev pub phase_words : ModulePhase → List (List ℕ)
phase_words Fill = codes "fill" ∷ []
phase_words (Step cycle) = codes "step" ∷ decimal cycle ∷ []
phase_words Read = codes "read" ∷ []

-- "fault module M fill", "fault module M step K" or "fault module M read": module M refused one of its first words, the
-- store of step K, or to tell its words
abbrev pub module_fault_line : ModuleFault → List ℕ
module_fault_line fault =
    line_text (codes "fault" ∷ codes "module" ∷ decimal fault.«module» ∷ phase_words fault.phase)
