-- Serves clause prefixes of waits_are_met_by_prefixes, and missing and prefix of counts_tell_what_waits.
-- The marks that lead a list: some mark of a number below an end is missing exactly where they don't reach the end.
use Rattle.std.proofs.Common.{◌≡◌, ℕ, zero, suc, ◌<◌, ◌≤◌, Bool, true, false, ◌&&◌, ◌||◌, inl, inr, List, [], ◌∷◌, ◌++◌, length, map, refl, sym, ap, ◌∙◌, arith}
use Rattle.std.specs.Prelude.{nat_lt, not}
use Rattle.std.proofs.lemmas.Bool.{cases_Bool, cases_lt, lt-ltb, le-ltb}
use Rattle.std.proofs.lemmas.List.{length-map, map-append}
use Rattle.strand_base.specs.Counting.{count_below, list_below, any_below}
use Rattle.strand_base.proofs.BelowBound.{count_mono, list_length}
use Rattle.strand_events.specs.Prefixes.{leading}

pub leading_most : (marks : List Bool) → leading marks ≤ length marks
leading_most [] = omega arith
leading_most (true ∷ marks) = let most = leading_most marks in omega (arith, most)
leading_most (false ∷ marks) = omega arith

-- a new mark changes nothing where an earlier one is missing
pub leading_stays : (marks : List Bool) (b : Bool) → leading marks < length marks → leading (marks ++ b ∷ []) ≡ leading marks
leading_stays [] b lt = absurd (omega (arith, lt))
leading_stays (true ∷ marks) b lt = ap suc (leading_stays marks b (omega (arith, lt)))
leading_stays (false ∷ marks) b lt = refl

-- a new mark that isn't set changes nothing
pub leading_unset : (marks : List Bool) → leading (marks ++ false ∷ []) ≡ leading marks
leading_unset [] = refl
leading_unset (true ∷ marks) = ap suc (leading_unset marks)
leading_unset (false ∷ marks) = refl

-- one that is set leads too, where all before it do
pub leading_set : (marks : List Bool) → length marks ≤ leading marks → leading (marks ++ true ∷ []) ≡ suc (length marks)
leading_set [] le = refl
leading_set (true ∷ marks) le = ap suc (leading_set marks (omega (arith, le)))
leading_set (false ∷ marks) le = absurd (omega (arith, le))

module _ (f durable : ℕ → Bool) where
  abbrev marks : ℕ → List Bool
  marks n = map durable (list_below n f)

  abbrev missing : ℕ → Bool
  missing p = f p && not (durable p)

  marks_length : (n : ℕ) → length (marks n) ≡ count_below n f
  marks_length n = length-map (list_below n f) durable ∙ list_length n f

  -- a number more that passes changes nothing of what is reached before it
  same_reach : (n end : ℕ) (b : Bool) → end ≤ n → nat_lt (leading (marks n ++ b ∷ [])) (count_below end f) ≡ nat_lt (leading (marks n)) (count_below end f)
  same_reach n end b le = elim (cases_lt (leading (marks n)) (length (marks n))) [
    | inl lt ↦ ap (λ k. nat_lt k (count_below end f)) (leading_stays (marks n) b lt)
    | inr full ↦
        let most = count_mono end n f le in
        let long = marks_length n in
        let old : nat_lt (leading (marks n)) (count_below end f) ≡ false = le-ltb (leading (marks n)) (count_below end f) (omega (arith, full, most, long)) in
        elim (cases_Bool b) [
          | inl set ↦ rw set (le-ltb (leading (marks n ++ true ∷ [])) (count_below end f) (omega (arith, leading_set (marks n) full, most, long)) ∙ sym old)
          | inr unset ↦ rw unset (ap (λ k. nat_lt k (count_below end f)) (leading_unset (marks n)))
        ]
  ]

  -- whether the new number itself is missing, or one before it
  last_reach : (n : ℕ) (b : Bool) → not b || nat_lt (leading (marks n)) (count_below n f) ≡ nat_lt (leading (marks n ++ b ∷ [])) (suc (count_below n f))
  last_reach n b = elim (cases_lt (leading (marks n)) (length (marks n))) [
    | inl lt ↦
        let long = marks_length n in
        let now : nat_lt (leading (marks n ++ b ∷ [])) (suc (count_below n f)) ≡ true = lt-ltb (leading (marks n ++ b ∷ [])) (suc (count_below n f)) (omega (arith, leading_stays (marks n) b lt, lt, long)) in
        elim (cases_Bool b) [
          | inl set ↦ rw set (lt-ltb (leading (marks n)) (count_below n f) (omega (arith, lt, long)) ∙ sym (rw set at now))
          | inr unset ↦ rw unset (sym (rw unset at now))
        ]
    | inr full ↦
        let long = marks_length n in
        let most = leading_most (marks n) in
        elim (cases_Bool b) [
          | inl set ↦ rw set (le-ltb (leading (marks n)) (count_below n f) (omega (arith, full, long)) ∙ sym (le-ltb (leading (marks n ++ true ∷ [])) (suc (count_below n f)) (omega (arith, leading_set (marks n) full, long))))
          | inr unset ↦ rw unset (sym (lt-ltb (leading (marks n ++ false ∷ [])) (suc (count_below n f)) (omega (arith, leading_unset (marks n), most, long))))
        ]
  ]

  pub missing_up_to : (n end : ℕ) → end ≤ n → any_below end missing ≡ nat_lt (leading (marks n)) (count_below end f)
  missing_up_to zero end le = let none : end ≡ 0 = omega (arith, le) in rw none refl
  missing_up_to (suc n) end le = elim (cases_Bool (f n)) [
    | inr no_ ↦ elim (cases_lt n end) [
      | inr below ↦ rw no_ (missing_up_to n end below)
      | inl past ↦ let last : end ≡ suc n = omega (arith, le, past) in rw (last, no_) (missing_up_to n n (omega arith))
    ]
    | inl yes_ ↦ elim (cases_lt n end) [
      | inr below ↦ missing_up_to n end below ∙ sym (same_reach n end (durable n) below) ∙ sym (ap (λ xs. nat_lt (leading xs) (count_below end f)) (rw yes_ (map-append durable (list_below n f) (n ∷ []))))
      | inl past ↦ let last : end ≡ suc n = omega (arith, le, past) in rw (last, yes_) (ap (λ b. not (durable n) || b) (missing_up_to n n (omega arith)) ∙ last_reach n (durable n) ∙ ap (λ xs. nat_lt (leading xs) (suc (count_below n f))) (sym (map-append durable (list_below n f) (n ∷ []))))
    ]
  ]
