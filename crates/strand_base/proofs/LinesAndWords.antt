-- Serves next_line, content and next_word: lines and words, from the place where they end; and, by the first place that passes,
-- read_line and print_instr.
use Rattle.std.proofs.Common.{◌≡◌, ℕ, zero, suc, ◌+◌, ◌-◌, min, ◌<◌, ◌≤◌, Bool, true, false, cond, eqb, ltb, not, List, [], ◌∷◌, ◌≢◌, length, get_or, take, drop, Some, None, refl, sym, ap, ◌∙◌, arith, inl, inr}
use Rattle.std.specs.Prelude.{position, slice_range}
use Rattle.std.specs.List.{position_or_len, before_first}
use Rattle.std.proofs.lemmas.List.{drop-drop, drop_all, take_rest, length-drop, take_all, get_or-drop}
use Rattle.std.proofs.lemmas.List.Quantifiers.{position-Some}
use Rattle.std.proofs.lemmas.List.Sums.{fails_before_first, prefix_len-le-length}
use Rattle.std.proofs.lemmas.Bool.{eqb-true, cases_lt, lt-ltb, ne_eqb, false≢true}
use Rattle.strand_base.specs.Text.{lines_of, onto_first, is_blank, pieces_of, words_of, without_return_of}

-- p fails at each byte before a place
abbrev pub FailsBelow : (ℕ → Bool) → ℕ → List ℕ → Type 0
FailsBelow p n s = (k : ℕ) → k < n → p (get_or s k 0) ≡ false

none_not_some : (b : Bool) (n : ℕ) (P : Type 0) → b ≡ true → cond b (Some n) None ≡ None → P
none_not_some true n P t e = absurd cc
none_not_some false n P t e = absurd cc

zero-not-suc : (n : ℕ) → suc n ≡ 0 → ⊥
zero-not-suc n e = omega arith

pub length_not_zero : (n : ℕ) → true ≡ eqb (suc n) 0 → ⊥
length_not_zero n e = absurd (zero-not-suc n (eqb-true (suc n) 0 (sym e)))

pub positive : (s : List ℕ) → false ≡ eqb (length s) 0 → 0 < length s
positive [] e = absurd cc
positive (b ∷ bs) e = omega arith

-- where no byte passes, p fails everywhere
pub none_passes : (p : ℕ → Bool) (s : List ℕ) → position p s ≡ None → FailsBelow p (length s) s
none_passes p s e k lt =
    elim (cases_lt (position_or_len p s) (length s)) [
      | inl below ↦ let t : ltb (position_or_len p s) (length s) ≡ true = lt-ltb _ _ below in none_not_some (ltb (position_or_len p s) (length s)) (position_or_len p s) _ t e
      | inr past ↦ fails_before_first p s k 0 (omega arith)
    ]

pub lines_cut : (s : List ℕ) (at : ℕ) → at < length s → eqb (get_or s at 0) 10 ≡ true → FailsBelow (λ b. eqb b 10) at s → lines_of s ≡ take at s ∷ lines_of (drop (suc at) s)
unfolding lines_of
lines_cut [] at lt here below = absurd (omega arith)
lines_cut (b ∷ bs) zero lt here below = rw here refl
lines_cut (b ∷ bs) (suc at) lt here below =
    let rest : lines_of bs ≡ take at bs ∷ lines_of (drop (suc at) bs) = lines_cut bs at (omega arith) here (λ k h. below (suc k) (omega arith)) in
    rw (below 0 (omega arith), rest) refl

pub lines_whole : (s : List ℕ) → 0 < length s → FailsBelow (λ b. eqb b 10) (length s) s → lines_of s ≡ s ∷ []
unfolding lines_of
lines_whole [] lt below = absurd (omega arith)
lines_whole (b ∷ []) lt below = rw (below 0 (omega arith)) refl
lines_whole (b ∷ c ∷ bs) lt below =
    let rest : lines_of (c ∷ bs) ≡ (c ∷ bs) ∷ [] = lines_whole (c ∷ bs) (omega arith) (λ k h. below (suc k) (omega arith)) in
    rw (below 0 (omega arith)) (ap (onto_first b) rest)

pieces_cut : (s : List ℕ) (at : ℕ) → at < length s → is_blank (get_or s at 0) ≡ true → FailsBelow is_blank at s → pieces_of s ≡ take at s ∷ pieces_of (drop (suc at) s)
unfolding pieces_of
pieces_cut [] at lt here below = absurd (omega arith)
pieces_cut (b ∷ bs) zero lt here below = rw here refl
pieces_cut (b ∷ bs) (suc at) lt here below =
    let rest : pieces_of bs ≡ take at bs ∷ pieces_of (drop (suc at) bs) = pieces_cut bs at (omega arith) here (λ k h. below (suc k) (omega arith)) in
    rw (below 0 (omega arith), rest) refl

pieces_whole : (s : List ℕ) → FailsBelow is_blank (length s) s → pieces_of s ≡ s ∷ []
unfolding pieces_of
pieces_whole [] below = refl
pieces_whole (b ∷ bs) below =
    rw (below 0 (omega arith)) (ap (onto_first b) (pieces_whole bs (λ k h. below (suc k) (omega arith))))

pub not_false : (b : Bool) → not b ≡ false → b ≡ true
not_false true e = refl
not_false false e = absurd cc

not_true : (b : Bool) → not b ≡ true → b ≡ false
not_true true e = absurd cc
not_true false e = refl

not_first : (s : List ℕ) (at : ℕ) → is_blank (get_or s 0 0) ≡ false → is_blank (get_or s at 0) ≡ true → 0 < at
not_first s zero first here = absurd (false≢true (sym first ∙ here))
not_first s (suc at) first here = omega arith

is_place : (b : Bool) (n at : ℕ) → Some at ≡ cond b (Some n) None → at ≡ n
is_place true n at e = cc
is_place false n at e = absurd cc

-- the place that 'position' finds, as a number
pub first_place : (p : ℕ → Bool) (s : List ℕ) (at : ℕ) → Some at ≡ position p s → at ≡ position_or_len p s
first_place p s at e = is_place (ltb (position_or_len p s) (length s)) (position_or_len p s) at e

pub past_place : (n len : ℕ) → None ≡ cond (ltb n len) (Some n) None → len ≤ n
past_place n len e =
    elim (cases_lt n len) [
      | inl below ↦ none_not_some (ltb n len) n _ (lt-ltb _ _ below) (sym e)
      | inr past ↦ past
    ]

-- a blank in front changes no word
words_blank : (b : ℕ) (bs : List ℕ) → is_blank b ≡ true → words_of (b ∷ bs) ≡ words_of bs
unfolding words_of pieces_of
words_blank b bs here = rw here refl

pub words_skip : (s : List ℕ) (at : ℕ) → at ≤ length s → FailsBelow (λ b. not (is_blank b)) at s → words_of (drop at s) ≡ words_of s
words_skip s zero le below = refl
words_skip [] (suc at) le below = absurd (omega arith)
words_skip (b ∷ bs) (suc at) le below =
    words_skip bs at (omega arith) (λ k h. below (suc k) (omega arith)) ∙ sym (words_blank b bs (not_false (is_blank b) (below 0 (omega arith))))

drop_at_suc : (s : List ℕ) (at : ℕ) → at < length s → drop at s ≡ get_or s at 0 ∷ drop (suc at) s
drop_at_suc [] at lt = absurd (omega arith)
drop_at_suc (b ∷ bs) zero lt = refl
drop_at_suc (b ∷ bs) (suc at) lt = drop_at_suc bs at (omega arith)

-- a word, up to a blank
pub words_cut : (s : List ℕ) (at : ℕ) → 0 < at → at < length s → is_blank (get_or s at 0) ≡ true → FailsBelow is_blank at s → words_of s ≡ take at s ∷ words_of (drop at s)
unfolding words_of
words_cut [] at some lt here below = absurd (omega arith)
words_cut (b ∷ bs) zero some lt here below = absurd (omega arith)
words_cut (b ∷ bs) (suc at) some lt here below =
    let rest : drop at bs ≡ get_or bs at 0 ∷ drop (suc at) bs = drop_at_suc bs at (omega arith) in
    rw (pieces_cut (b ∷ bs) (suc at) lt here below, rest) (ap (λ (ws : List (List ℕ)). (b ∷ take at bs) ∷ ws) (sym (words_blank (get_or bs at 0) (drop (suc at) bs) here)))

pub words_whole : (s : List ℕ) → 0 < length s → FailsBelow is_blank (length s) s → words_of s ≡ s ∷ words_of []
unfolding words_of pieces_of
words_whole [] lt below = absurd (omega arith)
words_whole (b ∷ bs) lt below = rw (pieces_whole (b ∷ bs) below) refl

pub return_none : (s : List ℕ) → true ≡ eqb (length s) 0 → s ≡ without_return_of s
unfolding without_return_of
return_none [] e = refl
return_none (b ∷ bs) e = absurd (length_not_zero (length bs) e)

pub return_kept : (s : List ℕ) → (0 < length s → get_or s (length s - 1) 0 ≢ 13) → without_return_of s ≡ s
unfolding without_return_of
return_kept [] h = refl
return_kept (b ∷ []) h = rw (ne_eqb b 13 (h (omega arith))) refl
return_kept (b ∷ c ∷ bs) h =
    let last : suc (suc (length bs)) - 1 ≡ suc (suc (length bs) - 1) = omega arith in
    let here : get_or (b ∷ c ∷ bs) (suc (suc (length bs)) - 1) 0 ≢ 13 = h (omega arith) in
    ap (λ (l : List ℕ). b ∷ l) (return_kept (c ∷ bs) (λ p. rw last at here))

-- the first line, which ends at a newline
pub lines_at : (text : List ℕ) (from at : ℕ) → Some at ≡ position (λ b. eqb b 10) (drop from text) → lines_of (drop from text) ≡ slice_range text from (from + at) ∷ lines_of (drop (from + at + 1) text)
lines_at text from at e =
    let here = position-Some (λ b. eqb b 10) (drop from text) at 0 (sym e) in
    let cut : lines_of (drop from text) ≡ take at (drop from text) ∷ lines_of (drop (suc at) (drop from text)) = lines_cut (drop from text) at here.0 here.1 here.2 in
    let width : from + at - from ≡ at = omega arith in
    let place : from + suc at ≡ from + at + 1 = omega arith in
    rw (width, ← place, ← drop-drop (suc at) from text) cut

-- the last line, which no newline ends
pub lines_last : (text : List ℕ) (from : ℕ) → from < length text → None ≡ position (λ b. eqb b 10) (drop from text) → lines_of (drop from text) ≡ slice_range text from (length text) ∷ lines_of (drop (length text) text)
unfolding lines_of
lines_last text from lt e =
    let whole = lines_whole (drop from text) (omega (arith, length-drop from text)) (none_passes (λ b. eqb b 10) (drop from text) (sym e)) in
    let rest : drop (length text) text ≡ [] = drop_all (length text) text (omega arith) in
    rw (take_rest text from, rest) whole

pub return_at : (s : List ℕ) → 0 < length s → get_or s (length s - 1) 0 ≡ 13 → without_return_of s ≡ take (length s - 1) s
unfolding without_return_of
return_at [] lt e = absurd (omega arith)
return_at (b ∷ []) lt e = rw e refl
return_at (b ∷ c ∷ bs) lt e =
    let last : suc (suc (length bs)) - 1 ≡ suc (suc (length bs) - 1) = omega arith in
    let here : get_or (b ∷ c ∷ bs) (suc (suc (length bs)) - 1) 0 ≡ 13 = e in
    rw last (ap (λ (l : List ℕ). b ∷ l) (return_at (c ∷ bs) (omega arith) (rw last at here)))

pub word_at : (s : List ℕ) (at : ℕ) → 0 < length s → is_blank (get_or s 0 0) ≡ false → Some at ≡ position is_blank s → words_of s ≡ take at s ∷ words_of (drop at s)
word_at s at lt first e =
    let here = position-Some is_blank s at 0 (sym e) in
    words_cut s at (not_first s at first here.1) here.0 here.1 here.2

pub word_whole : (s : List ℕ) → 0 < length s → None ≡ position is_blank s → words_of s ≡ s ∷ words_of []
word_whole s lt e = words_whole s lt (none_passes is_blank s (sym e))

pub skip_at : (s : List ℕ) (at : ℕ) → Some at ≡ position (λ b. not (is_blank b)) s → (words_of (drop at s) ≡ words_of s) × (is_blank (get_or (drop at s) 0 0) ≡ false)
skip_at s at e =
    let here = position-Some (λ b. not (is_blank b)) s at 0 (sym e) in
    (words_skip s at (omega arith) here.2, rw (get_or-drop at s 0 0) (let zero_more : at + 0 ≡ at = omega arith in rw zero_more (not_true _ here.1)))

pub skip_all : (s : List ℕ) → None ≡ position (λ b. not (is_blank b)) s → words_of [] ≡ words_of s
skip_all s e =
    let rest : drop (length s) s ≡ [] = drop_all (length s) s (omega arith) in
    let all : words_of (drop (length s) s) ≡ words_of s = words_skip s (length s) (omega arith) (none_passes (λ b. not (is_blank b)) s (sym e)) in
    rw rest at all

pub no_words : words_of [] ≡ []
unfolding words_of pieces_of
no_words = refl

pub before_at : (p : ℕ → Bool) (s : List ℕ) (at : ℕ) → Some at ≡ position p s → take at s ≡ before_first p s
before_at p s at e = ap (λ (n : ℕ). take n s) (is_place (ltb (position_or_len p s) (length s)) (position_or_len p s) at e)

pub before_none : (p : ℕ → Bool) (s : List ℕ) → None ≡ position p s → s ≡ before_first p s
before_none p s e = sym (take_all (position_or_len p s) s (past_place (position_or_len p s) (length s) e))

-- where a line ends, and where the next one begins
pub end_at : (text : List ℕ) (from at : ℕ) → from < length text → Some at ≡ position (λ b. eqb b 10) (drop from text)
    → (from + at ≡ from + position_or_len (λ b. eqb b 10) (drop from text)) × (from + at + 1 ≡ min (from + at + 1) (length text))
end_at text from at lt e =
    let here = position-Some (λ b. eqb b 10) (drop from text) at 0 (sym e) in (
      ap (λ (n : ℕ). from + n) (is_place (ltb (position_or_len (λ b. eqb b 10) (drop from text)) (length (drop from text))) (position_or_len (λ b. eqb b 10) (drop from text)) at e),
      omega (arith, here.0, length-drop from text),
    )

pub end_last : (text : List ℕ) (from : ℕ) → from < length text → None ≡ position (λ b. eqb b 10) (drop from text)
    → (length text ≡ from + position_or_len (λ b. eqb b 10) (drop from text)) × (length text ≡ min (length text + 1) (length text))
end_last text from lt e =
    let past = past_place (position_or_len (λ b. eqb b 10) (drop from text)) (length (drop from text)) e in
    (omega (arith, past, prefix_len-le-length (λ b. not (eqb b 10)) (drop from text), length-drop from text), omega arith)
