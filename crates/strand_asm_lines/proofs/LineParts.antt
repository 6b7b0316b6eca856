-- Serves clause gives of read_line, by body and labelled: the body by its word, and a label by its pieces.
use Rattle.std.proofs.Common.{◌≡◌, ℕ, ◌<◌, List, [], ◌∷◌, length, None, Ok, refl, arith}
use Rattle.std.specs.Option.{ok_or}
use Rattle.strand_asm_lines.specs.Line.{◌>>=◌, head_of, directive_of, body_by, labelled}
use Rattle.strand_asm_lines.specs.declared.fault.LineKind.TheVariants.{UnknownName}
use Rattle.strand_asm_lines.specs.declared.line.Body.TheVariants.{Empty}

pub body_none : (word rest : List ℕ) → length word ≡ 0 → body_by word rest ≡ Ok Empty
unfolding body_by
body_none [] rest e = refl
body_none (b ∷ bs) rest e = absurd (omega arith)

pub body_some : (word rest : List ℕ) → 0 < length word → body_by word rest ≡ (ok_or (head_of word) UnknownName >>= λ head. directive_of head rest)
unfolding body_by
body_some [] rest lt = absurd (omega arith)
body_some (b ∷ bs) rest lt = refl

pub labelled_more : (front rest : List ℕ) (ps : List (List ℕ)) → 0 < length ps → labelled (front ∷ rest ∷ ps) ≡ None
labelled_more front rest [] lt = absurd (omega arith)
labelled_more front rest (p ∷ ps) lt = refl
