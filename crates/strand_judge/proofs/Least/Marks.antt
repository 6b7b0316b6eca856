-- Serves judge, by mark_since and follow: one mark more, and its event on the list.
use Rattle.std.proofs.Common.{◌≡◌, ℕ, zero, suc, ◌<◌, Bool, true, false, ◌⊎◌, inl, inr, List, [], ◌∷◌, ◌++◌, length, refl, sym, ap, ◌∙◌, arith, cond, subst}
use Rattle.std.specs.Prelude.{not, slice_index, slice_set}
use Rattle.std.proofs.lemmas.Bool.{cases_eq, cases_lt, cases_Bool, both_ways}
use Rattle.std.proofs.lemmas.List.{length-set, length_push, get_or_push, get_or_append_left, get_or_past, get_or-set_other, get_or-set_same}
use Rattle.strand_base.specs.Counting.{count_below}
use Rattle.strand_base.proofs.BelowBound.{count_yes, count_no, count_agree, at_or_below}
use Rattle.strand_events.specs.Order.{set_of}
use Rattle.strand_judge.specs.Worklist.{IsListed, left, Grows}
use Rattle.strand_judge.specs.Gathered.{IsMarkedMore}

-- what one more mark holds
pub marked_is : (marks : List Bool) (b i : ℕ) → set_of (slice_set marks b true) i ≡ true → (i ≡ b) ⊎ (set_of marks i ≡ true)
marked_is marks b i h = elim (cases_eq i b) [
  | inl e ↦ inl e
  | inr ne ↦ inr (sym (get_or-set_other marks b i true false ne) ∙ h)
]

pub still_marked : (marks : List Bool) (b i : ℕ) → b < length marks → set_of marks i ≡ true → set_of (slice_set marks b true) i ≡ true
still_marked marks b i lt h = elim (cases_eq i b) [
  | inl e ↦ ap (set_of (slice_set marks b true)) e ∙ get_or-set_same marks b true false lt
  | inr ne ↦ get_or-set_other marks b i true false ne ∙ h
]

pub newly_marked : (marks : List Bool) (b : ℕ) → b < length marks → set_of (slice_set marks b true) b ≡ true
newly_marked marks b lt = get_or-set_same marks b true false lt

pub mark_within : (marks : List Bool) (i : ℕ) → set_of marks i ≡ true → i < length marks
mark_within marks i h = elim (cases_lt i (length marks)) [
  | inl lt ↦ lt
  | inr le ↦ absurd (both_ways (set_of marks i) (get_or_past marks i false le) h)
]

pub grows_none : (n : ℕ) (marks : List Bool) (list : List ℕ) → Grows n marks list marks list
grows_none n marks list = record { marks_grow = λ k h. h; longer = omega arith; kept = λ place lt. refl; even = refl }

pub grows_both : (n : ℕ) (m m' m'' : List Bool) (l l' l'' : List ℕ) → Grows n m l m' l' → Grows n m' l' m'' l'' → Grows n m l m'' l''
grows_both n m m' m'' l l' l'' a b = record {
  marks_grow = λ k h. b.marks_grow k (a.marks_grow k h);
  longer = omega (arith, a.longer, b.longer);
  kept = λ place lt. b.kept place (omega (arith, lt, a.longer)) ∙ a.kept place lt;
  even = b.even ∙ a.even;
}

-- one mark more leaves one event less without a mark
left_one : (n : ℕ) (marks : List Bool) (x : ℕ) → x < length marks → set_of marks x ≡ false → x < n → left n marks ≡ suc (left n (slice_set marks x true))
left_one zero marks x within out lt = absurd (omega arith)
left_one (suc n) marks x within out lt =
    let old = λ (k : ℕ). not (set_of marks k) in
    let new = λ (k : ℕ). not (set_of (slice_set marks x true) k) in
    let other = λ (k : ℕ) (ne : k ≡ x → ⊥). ap not (get_or-set_other marks x k true false ne) in
    elim (cases_eq x n) [
      | inl e ↦
          let here : old n ≡ true = ap (λ k. not (set_of marks k)) (sym e) ∙ ap not out in
          let gone : new n ≡ false = ap (λ k. not (set_of (slice_set marks x true) k)) (sym e) ∙ ap not (newly_marked marks x within) in
          let same : count_below n old ≡ count_below n new = count_agree n old new (λ k less. sym (other k (λ bad. omega (arith, bad, less, e)))) in
          omega (arith, count_yes n old here, count_no n new gone, same)
      | inr ne ↦
          let below = left_one n marks x within out (at_or_below lt ne) in
          let same : new n ≡ old n = other n (λ bad. ne (sym bad)) in
          elim (cases_Bool (old n)) [
            | inl yes_ ↦ omega (arith, count_yes n old yes_, count_yes n new (same ∙ yes_), below)
            | inr no_ ↦ omega (arith, count_no n old no_, count_no n new (same ∙ no_), below)
          ]
    ]

set_again : (marks : List Bool) (x : ℕ) → set_of marks x ≡ true → slice_set marks x true ≡ marks
set_again [] x h = refl
set_again (m ∷ marks) zero h = ap (λ b. b ∷ marks) (sym h)
set_again (m ∷ marks) (suc x) h = ap (λ ms. m ∷ ms) (set_again marks x h)

module _ (n : ℕ) (marks : List Bool) (list : List ℕ) (x : ℕ) (l : IsListed n marks list) (lt : x < n) where
  -- event x marked, and on the list where it wasn't
  pub listed_more : (marks' : List Bool) (list' : List ℕ) → marks' ≡ slice_set marks x true → list' ≡ cond (set_of marks x) list (list ++ x ∷ [])
      → IsListed n marks' list' × Grows n marks list marks' list'
  listed_more marks' list' made put = elim (cases_Bool (set_of marks x)) [
    | inl on ↦
        let same : marks' ≡ marks = made ∙ set_again marks x on in
        let same_list : list' ≡ list = put ∙ ap (λ b. cond b list (list ++ x ∷ [])) on in (
          subst (λ m. IsListed n m list') (sym same) (subst (λ xs. IsListed n marks xs) (sym same_list) l),
          subst (λ m. Grows n marks list m list') (sym same) (subst (λ xs. Grows n marks list marks xs) (sym same_list) (grows_none n marks list)),
        )
    | inr out ↦
        let longer : list' ≡ list ++ x ∷ [] = put ∙ ap (λ b. cond b list (list ++ x ∷ [])) out in
        let within : x < length marks = omega (arith, lt, l.long) in (
          subst (λ m. IsListed n m list') (sym made) (subst (λ xs. IsListed n (slice_set marks x true) xs) (sym longer) (record {
            long = length-set marks x true ∙ l.long;
            listed = λ k h. elim (marked_is marks x k h) [
              | inl e ↦ (length list, omega (arith, length_push list x), get_or_push list x 0 (length list) refl ∙ sym e)
              | inr was ↦
                  let at = l.listed k was in
                  (at.0, omega (arith, at.1, length_push list x), get_or_append_left list (x ∷ []) 0 at.0 at.1 ∙ at.2)
            ];
            marked = λ place less. elim (cases_eq place (length list)) [
              | inl e ↦
                  let here : slice_index (list ++ x ∷ []) place ≡ x = ap (slice_index (list ++ x ∷ [])) e ∙ get_or_push list x 0 (length list) refl in
                  ap (set_of (slice_set marks x true)) here ∙ newly_marked marks x within
              | inr ne ↦
                  let below : place < length list = grind (arith, less, ne, length_push list x) in
                  still_marked marks x (slice_index (list ++ x ∷ []) place) within (ap (set_of marks) (get_or_append_left list (x ∷ []) 0 place below) ∙ l.marked place below)
            ];
          })),
          subst (λ m. Grows n marks list m list') (sym made) (subst (λ xs. Grows n marks list (slice_set marks x true) xs) (sym longer) (record {
            marks_grow = λ k h. still_marked marks x k within h;
            longer = omega (arith, length_push list x);
            kept = λ place less. get_or_append_left list (x ∷ []) 0 place less;
            even = omega (arith, left_one n marks x within out lt, length_push list x);
          })),
        )
  ]

-- the event that a number stands for marked
pub marked_one : (n since x : ℕ) (marks : List Bool) (list : List ℕ) (marks' : List Bool) (list' : List ℕ) → since ≡ suc x → x < n → IsListed n marks list
    → marks' ≡ slice_set marks x true → list' ≡ cond (set_of marks x) list (list ++ x ∷ []) → IsMarkedMore n since marks list marks' list'
marked_one n since x marks list marks' list' is lt l made put =
    let more = listed_more n marks list x l lt marks' list' made put in
    record {
      listed = more.0;
      grows = more.1;
      on = λ k e. let same : k ≡ x = omega (arith, e, is) in ap (set_of marks') same ∙ ap (λ ms. set_of ms x) made ∙ newly_marked marks x (omega (arith, lt, l.long));
      only = λ k h. elim (marked_is marks x k (ap (λ ms. set_of ms k) (sym made) ∙ h)) [ inl e ↦ inr (is ∙ ap suc (sym e)) | inr was ↦ inl was ];
    }
