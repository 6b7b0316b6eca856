-- Serves generated_image and generated_schedule: one more draw at the end of a list of draws.
use Rattle.std.proofs.Common.{◌≡◌, ℕ, zero, suc, ◌+◌, List, [], ◌∷◌, ◌++◌, map, refl, sym, ap, ◌∙◌, append_assoc, arith}
use Rattle.std.proofs.lemmas.List.{map-append}
use Rattle.strand_gen.specs.Draws.{Drawn, draw_list}

list_more : {A : Type 0} (n : ℕ) (one : Drawn A) (x : ℕ)
    → draw_list (suc n) one x ≡ ((draw_list n one x).0 ++ (one (draw_list n one x).1).0 ∷ [], (one (draw_list n one x).1).1)
unfolding draw_list
list_more zero one x = refl
list_more {A} (suc n) one x = ap (λ (rest : List A × ℕ). ((one x).0 ∷ rest.0, rest.1)) (list_more n one (one x).1)

pub one_more : {A : Type 0} (n : ℕ) (one : Drawn A) (x state : ℕ) (a : A) (after : ℕ) → state ≡ (draw_list n one x).1 → one state ≡ (a, after)
    → draw_list (n + 1) one x ≡ ((draw_list n one x).0 ++ a ∷ [], after)
one_more {A} n one x state a after at e =
    let here : one (draw_list n one x).1 ≡ (a, after) = ap one (sym at) ∙ e in
    let suc_n : n + 1 ≡ suc n = omega arith in
    ap (λ (m : ℕ). draw_list m one x) suc_n ∙ list_more n one x ∙ ap (λ (drawn : A × ℕ). ((draw_list n one x).0 ++ drawn.0 ∷ [], drawn.1)) here

pub one_word_more : {A : Type 0} (word : A → ℕ) (old words : List ℕ) (n : ℕ) (one : Drawn A) (x state : ℕ) (a : A) (after : ℕ)
    → words ≡ old ++ map word (draw_list n one x).0 → state ≡ (draw_list n one x).1 → one state ≡ (a, after)
    → words ++ word a ∷ [] ≡ old ++ map word (draw_list (n + 1) one x).0
one_word_more word old words n one x state a after so_far at e =
    rw (one_more n one x state a after at e, map-append word (draw_list n one x).0 (a ∷ []), so_far) (append_assoc old (map word (draw_list n one x).0) (word a ∷ []))
