-- Serves each call that writes a line, through put_fields: a line of fields in its parts.
use Rattle.std.proofs.Common.{◌≡◌, ℕ, ◌<◌, List, [], ◌∷◌, ◌++◌, length, get_or, drop, map, arith, ap, ◌∙◌, append_assoc}
use Rattle.std.specs.List.{flat_map}
use Rattle.std.proofs.lemmas.List.Concat.{flat_map-append}
use Rattle.strand_base.proofs.AppendsFront.{flat_of_map}
use Rattle.strand_base.specs.Text.{line_text}
use Rattle.strand_report.specs.declared.fields.Field.{Field}
use Rattle.strand_report.specs.Fields.{field_text}

-- each field with a space before it
abbrev pub spaced_fields : List Field → List ℕ
spaced_fields fields = flat_map (λ f. 32 ∷ field_text f) fields

-- the first field, the others of the front, the rest, and the line's end
pub line_of_fields : (front rest : List Field) (d : Field) → 0 < length front
    → line_text (map field_text (front ++ rest)) ≡ field_text (get_or front 0 d) ++ (spaced_fields (drop 1 front) ++ (spaced_fields rest ++ 10 ∷ []))
line_of_fields [] rest d some = absurd (omega arith)
line_of_fields (f ∷ fs) rest d some =
    rw (flat_of_map (λ w. 32 ∷ w) field_text (fs ++ rest), flat_map-append (λ f. 32 ∷ field_text f) fs rest)
    (append_assoc (field_text f) (spaced_fields fs ++ spaced_fields rest) (10 ∷ []) ∙ ap (λ (s : List ℕ). field_text f ++ s) (append_assoc (spaced_fields fs) (spaced_fields rest) (10 ∷ [])))
