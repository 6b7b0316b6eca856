-- Code words, each decoded once.
use Rattle.std.specs.Prelude.{◌≡◌, ℕ, List, map, IfSome}
use Rattle.std.specs.List.{All}
use Rattle.std.specs.declared.option.Option.{Option}
use Rattle.strand_isa.specs.declared.instr.Instr.{Instr}
use Rattle.strand_isa.specs.Decode.{instr_of}
use Rattle.strand_isa.specs.Word.{IsValid}

-- an instruction's fields are in their ranges
abbrev pub IsSound : Option Instr → Type 0
IsSound instr = IfSome instr IsValid

-- the instructions of these words
abbrev pub AreDecoded : List ℕ → List (Option Instr) → Type 0
AreDecoded words instrs = (instrs ≡ map instr_of words) × All IsSound instrs
