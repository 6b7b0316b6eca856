-- Serves what Code keeps, by Code::new: its instructions are those of its words, one after the other.
use Rattle.std.proofs.Common.{◌≡◌, ℕ, zero, suc, ◌+◌, ◌<◌, List, [], ◌∷◌, ◌++◌, map, take, length, get_or, refl, ap, arith}
use Rattle.std.specs.List.{All}
use Rattle.std.specs.declared.option.Option.{Option}
use Rattle.std.proofs.lemmas.List.{take_more}
use Rattle.std.proofs.lemmas.List.Elements.{All-append, All-nil}
use Rattle.strand_isa.specs.declared.instr.Instr.{Instr}
use Rattle.strand_isa.specs.Decode.{instr_of}
use Rattle.strand_exec.specs.Decoded.{IsSound, AreDecoded}

map_snoc : (words : List ℕ) (word : ℕ) → map instr_of (words ++ word ∷ []) ≡ map instr_of words ++ instr_of word ∷ []
map_snoc [] word = refl
map_snoc (w ∷ words) word = ap (λ (xs : List (Option Instr)). instr_of w ∷ xs) (map_snoc words word)

pub decoded_none : AreDecoded [] []
decoded_none = (refl, All-nil IsSound)

All-one : (instr : Option Instr) → IsSound instr → All IsSound (instr ∷ [])
All-one instr sound zero d lt = sound
All-one instr sound (suc k) d lt = absurd (omega (arith, lt))

-- one word more
pub decoded_more : (words : List ℕ) (instrs : List (Option Instr)) (i d : ℕ) (instr : Option Instr) → i < length words → instr ≡ instr_of (get_or words i d) → IsSound instr
    → AreDecoded (take i words) instrs → AreDecoded (take (i + 1) words) (instrs ++ instr ∷ [])
decoded_more words instrs i d instr lt is sound so = (
  rw (take_more words i d lt, map_snoc (take i words) (get_or words i d), so.0, is) refl,
  All-append IsSound instrs (instr ∷ []) so.1 (All-one instr sound),
)
