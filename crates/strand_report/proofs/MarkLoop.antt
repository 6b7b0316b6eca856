-- Serves write_run and count_marked: a loop over marks that appends the numbers of those that are set.
use Rattle.std.proofs.Common.{◌≡◌, ℕ, zero, suc, ◌+◌, ◌<◌, ◌≤◌, Bool, true, false, List, [], ◌∷◌, ◌++◌, length, decimal, refl, sym, ap, ◌∙◌, arith, append_assoc, add-one, inl, inr, subst}
use Rattle.std.proofs.lemmas.Bool.{cases_Bool, cases_eq}
use Rattle.std.proofs.lemmas.List.{flat_map_more}
use Rattle.std.specs.List.{flat_map}
use Rattle.strand_base.specs.Counting.{count_below, list_below}
use Rattle.strand_base.specs.Puts.{AppendsFront}
use Rattle.strand_base.proofs.BelowBound.{list_length}
use Rattle.strand_base.proofs.AppendsFront.{front_after, front_before}
use Rattle.strand_events.specs.Order.{set_of}
use Rattle.strand_report.proofs.CountLoop.{Counted}
use Rattle.strand_report.specs.Persists.{marked}

-- the members below i, each with a space before it
abbrev pub members_below : ℕ → List Bool → List ℕ
members_below i marks = flat_map (λ n. 32 ∷ decimal n) (list_below i (set_of marks))

members_yes : (i : ℕ) (marks : List Bool) → set_of marks i ≡ true → members_below (suc i) marks ≡ members_below i marks ++ (32 ∷ decimal i)
members_yes i marks e = rw e (sym (flat_map_more (λ n. 32 ∷ decimal n) [] (list_below i (set_of marks)) i))

members_no : (i : ℕ) (marks : List Bool) → set_of marks i ≡ false → members_below (suc i) marks ≡ members_below i marks
members_no i marks e = rw e refl

pub members_more : (marks : List Bool) (i : ℕ) (old mid new : List ℕ) → set_of marks i ≡ true → mid ≡ old ++ members_below i marks → new ≡ mid ++ (32 ∷ decimal i)
    → new ≡ old ++ members_below (i + 1) marks
members_more marks i old mid new e h more =
    more ∙ ap (λ (s : List ℕ). s ++ (32 ∷ decimal i)) h ∙ append_assoc old (members_below i marks) (32 ∷ decimal i)
    ∙ ap (λ (s : List ℕ). old ++ s) (sym (rw add-one (members_yes i marks e)))

pub members_same : (marks : List Bool) (i : ℕ) (old mid : List ℕ) → set_of marks i ≡ false → mid ≡ old ++ members_below i marks → mid ≡ old ++ members_below (i + 1) marks
members_same marks i old mid e h = h ∙ ap (λ (s : List ℕ). old ++ s) (sym (rw add-one (members_no i marks e)))

-- a front of the first members is one of them all
front_grows : (marks : List Bool) (i n : ℕ) (old new : List ℕ) → i ≤ n → AppendsFront (members_below i marks) old new → AppendsFront (members_below n marks) old new
front_grows marks zero zero old new le h = h
front_grows marks (suc i) zero old new le h = absurd (omega arith)
front_grows marks i (suc n) old new le h = elim (cases_eq i (suc n)) [
  | inl e ↦ subst (λ (j : ℕ). AppendsFront (members_below j marks) old new) e h
  | inr ne ↦
      let below : i ≤ n = grind arith in
      let so = front_grows marks i n old new below h in
      elim (cases_Bool (set_of marks n)) [
        | inl yes_ ↦ rw (members_yes n marks yes_) (front_before (members_below n marks) (32 ∷ decimal n) old new so)
        | inr no_ ↦ rw (members_no n marks no_) so
      ]
]

pub members_stop : (marks : List Bool) (i : ℕ) (old mid new : List ℕ) → i < length marks → set_of marks i ≡ true → mid ≡ old ++ members_below i marks → AppendsFront (32 ∷ decimal i) mid new
    → AppendsFront (members_below (length marks) marks) old new
members_stop marks i old mid new lt e h front =
    front_grows marks (suc i) (length marks) old new (omega arith) (rw (members_yes i marks e) (front_after (members_below i marks) (32 ∷ decimal i) old mid new h front))

pub members_all : (marks : List Bool) (n : ℕ) (old new : List ℕ) → n ≡ length marks → new ≡ old ++ members_below n marks → new ≡ old ++ flat_map (λ n. 32 ∷ decimal n) (marked marks)
members_all marks n old new e h = rw (← e) h

pub count_all : (marks : List Bool) (n count : ℕ) → n ≡ length marks → Counted (set_of marks) n count → count ≡ length (marked marks)
count_all marks n count e counted = counted.0 ∙ ap (λ (j : ℕ). count_below j (set_of marks)) e ∙ sym (list_length (length marks) (set_of marks))
