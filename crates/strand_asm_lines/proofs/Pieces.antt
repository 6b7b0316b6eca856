-- Serves clause gives of read_line: pieces between separators, and the first place that passes.
use Rattle.std.proofs.Common.{◌≡◌, ℕ, zero, suc, ◌+◌, ◌<◌, Bool, true, false, cond, eqb, List, [], ◌∷◌, length, get_or, take, drop, Some, None, refl, sym, ap, arith}
use Rattle.std.specs.Prelude.{position, count_by}
use Rattle.std.specs.List.{position_or_len}
use Rattle.std.proofs.lemmas.List.{drop_all}
use Rattle.std.proofs.lemmas.List.Quantifiers.{position-Some}
use Rattle.std.proofs.lemmas.List.Sums.{sum_by-cons}
use Rattle.strand_base.specs.Text.{onto_first}
use Rattle.strand_base.proofs.LinesAndWords.{FailsBelow, first_place, none_passes, past_place}
use Rattle.strand_asm_lines.specs.Bytes.{pieces, from_first}
use Rattle.strand_asm_lines.specs.Token.{opened, closed}

pieces_cut : (separator : ℕ) (s : List ℕ) (at : ℕ) → at < length s → eqb (get_or s at 0) separator ≡ true → FailsBelow (λ b. eqb b separator) at s → pieces separator s ≡ take at s ∷ pieces separator (drop (suc at) s)
unfolding pieces
pieces_cut separator [] at lt here below = absurd (omega arith)
pieces_cut separator (b ∷ bs) zero lt here below = rw here refl
pieces_cut separator (b ∷ bs) (suc at) lt here below =
    let rest : pieces separator bs ≡ take at bs ∷ pieces separator (drop (suc at) bs) = pieces_cut separator bs at (omega arith) here (λ k h. below (suc k) (omega arith)) in
    rw (below 0 (omega arith), rest) refl

pieces_whole : (separator : ℕ) (s : List ℕ) → FailsBelow (λ b. eqb b separator) (length s) s → pieces separator s ≡ s ∷ []
unfolding pieces
pieces_whole separator [] below = refl
pieces_whole separator (b ∷ bs) below =
    rw (below 0 (omega arith)) (ap (onto_first b) (pieces_whole separator bs (λ k h. below (suc k) (omega arith))))

pub pieces_at : (separator : ℕ) (s : List ℕ) (at : ℕ) → Some at ≡ position (λ b. eqb b separator) s → pieces separator s ≡ take at s ∷ pieces separator (drop (suc at) s)
pieces_at separator s at e = let here = position-Some (λ b. eqb b separator) s at 0 (sym e) in pieces_cut separator s at here.0 here.1 here.2

pub pieces_none : (separator : ℕ) (s : List ℕ) → None ≡ position (λ b. eqb b separator) s → pieces separator s ≡ s ∷ []
pieces_none separator s e = pieces_whole separator s (none_passes (λ b. eqb b separator) s (sym e))

onto_length : (b : ℕ) (ps : List (List ℕ)) → 0 < length ps → length (onto_first b ps) ≡ length ps
onto_length b [] lt = absurd (omega arith)
onto_length b (p ∷ ps) lt = refl

split_length : (v : Bool) (b count : ℕ) (ps : List (List ℕ)) → length ps ≡ count + 1 → length (cond v ([] ∷ ps) (onto_first b ps)) ≡ cond v 1 0 + count + 1
split_length true b count ps e = omega arith
split_length false b count ps e = omega (arith, onto_length b ps (omega arith))

pub length_pieces : (separator : ℕ) (s : List ℕ) → length (pieces separator s) ≡ count_by (λ b. eqb b separator) s + 1
unfolding pieces
length_pieces separator [] = refl
length_pieces separator (b ∷ bs) = rw (sum_by-cons (λ c. cond (eqb c separator) 1 0) b bs) (split_length (eqb b separator) b (count_by (λ c. eqb c separator) bs) (pieces separator bs) (length_pieces separator bs))

-- the first place that passes
pub from_at : (p : ℕ → Bool) (s : List ℕ) (at : ℕ) → Some at ≡ position p s → drop at s ≡ from_first p s
unfolding from_first
from_at p s at e = ap (λ (n : ℕ). drop n s) (first_place p s at e)

pub from_none : (p : ℕ → Bool) (s : List ℕ) → None ≡ position p s → [] ≡ from_first p s
unfolding from_first
from_none p s e = sym (drop_all (position_or_len p s) s (past_place (position_or_len p s) (length s) e))

-- a list that ends
pub get_past : (xs : List (List ℕ)) (k place : ℕ) (y : List ℕ) → drop k xs ≡ y ∷ [] → k < place → get_or xs place [] ≡ []
get_past [] k place y e lt = refl
get_past (x ∷ xs) k zero y e lt = absurd (omega arith)
get_past (x ∷ []) zero (suc place) y e lt = refl
get_past (x ∷ w ∷ xs) zero (suc place) y e lt = absurd cc
get_past (x ∷ xs) (suc k) (suc place) y e lt = get_past xs k place y e (omega arith)

pub drop_more : (xs : List (List ℕ)) (k : ℕ) (y : List ℕ) (ys : List (List ℕ)) → drop k xs ≡ y ∷ ys → drop (suc k) xs ≡ ys
drop_more [] zero y ys e = absurd cc
drop_more [] (suc k) y ys e = absurd cc
drop_more (x ∷ xs) zero y ys e = cc
drop_more (x ∷ xs) (suc k) y ys e = drop_more xs k y ys e

-- More than two pieces are no brackets.
pub opened_more : (offset base : List ℕ) (ps : List (List ℕ)) → 0 < length ps → opened (offset ∷ base ∷ ps) ≡ None
opened_more offset base [] lt = absurd (omega arith)
opened_more offset base (p ∷ ps) lt = refl

closed_onto : (before : List ℕ) (b : ℕ) (ps : List (List ℕ)) → closed (before ∷ onto_first b ps) ≡ None
closed_onto before b [] = refl
closed_onto before b (p ∷ ps) = refl

closed_two : (before : List ℕ) (ps : List (List ℕ)) → 0 < length ps → closed (before ∷ [] ∷ ps) ≡ None
closed_two before [] lt = absurd (omega arith)
closed_two before (p ∷ ps) lt = refl

pub closed_more : (before end : List ℕ) → 0 < length end → closed (before ∷ pieces 41 end) ≡ None
unfolding pieces
closed_more before [] lt = absurd (omega arith)
closed_more before (b ∷ bs) lt =
    elim (eqb b 41) as (λ v. closed (before ∷ cond v ([] ∷ pieces 41 bs) (onto_first b (pieces 41 bs))) ≡ None) [
      | true ↦ closed_two before (pieces 41 bs) (omega (arith, length_pieces 41 bs))
      | false ↦ closed_onto before b (pieces 41 bs)
    ]

pub closed_end : (before end : List ℕ) → length end ≡ 0 → closed (before ∷ pieces 41 end) ≡ opened (pieces 40 before)
unfolding pieces
closed_end before [] e = refl
closed_end before (b ∷ bs) e = absurd (omega arith)
