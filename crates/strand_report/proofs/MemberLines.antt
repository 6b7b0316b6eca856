-- Serves write_run and write_verdict, through put_members: a line of numbers in its parts.
use Rattle.std.proofs.Common.{◌≡◌, ℕ, List, [], ◌∷◌, ◌++◌, length, codes, decimal, sym, ap, ◌∙◌, append_assoc}
use Rattle.std.specs.List.{flat_map}
use Rattle.strand_base.proofs.AppendsFront.{flat_of_map}
use Rattle.strand_report.specs.Persists.{members_line}

-- the name and the count, the members, and the line's end
abbrev pub count_text : List ℕ → List ℕ → List ℕ
count_text name members = name ++ ((32 ∷ decimal (length members)) ++ codes ":")

pub members_parts : (name members : List ℕ) → members_line name members ≡ count_text name members ++ (flat_map (λ n. 32 ∷ decimal n) members ++ 10 ∷ [])
members_parts name members =
    let count = (32 ∷ decimal (length members)) ++ codes ":" in
    let numbers = flat_map (λ n. 32 ∷ decimal n) members in
    rw (flat_of_map (λ w. 32 ∷ w) decimal members)
    (ap (λ (s : List ℕ). s ++ 10 ∷ []) (sym (append_assoc name count numbers)) ∙ append_assoc (name ++ count) numbers (10 ∷ []))
