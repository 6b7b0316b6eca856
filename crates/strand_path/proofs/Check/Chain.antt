-- Serves clauses yes and no of check_path, by is_along: going along a route beside its chain.
use Rattle.std.proofs.Common.{◌≡◌, ℕ, suc, ◌+◌, ◌<◌, ◌≤◌, true, false, inl, inr, List, [], ◌∷◌, length, drop, refl, sym, ap, ◌∙◌, arith, add-one, drop-cons}
use Rattle.std.specs.Prelude.{slice_index, ◌==◌, nat_lt}
use Rattle.std.proofs.lemmas.Bool.{and_parts, and_from, eqb-true, eq-eqb, ltb-true, lt-ltb, both_ways, cases_lt}
use Rattle.std.proofs.lemmas.List.{drop_all}
use Rattle.strand_events.specs.declared.event.Event.{Event}
use Rattle.strand_events.specs.Trace.{is_persist, event_is, persist_number}
use Rattle.strand_path.specs.Checked.{numbers_on, has_at}

-- the rest of the chain is right exactly where the whole is
pub record IsAlong (t : List Event) (chain route : List ℕ) (k next : ℕ) : Type 0 where
  pub within : next ≤ length chain
  pub yes : drop next chain ≡ numbers_on t (drop k route) → chain ≡ numbers_on t route
  pub no : chain ≡ numbers_on t route → drop next chain ≡ numbers_on t (drop k route)

module _ (t : List Event) (chain route : List ℕ) where
  rest_more : (k : ℕ) → k < length route → event_is is_persist t (slice_index route k) ≡ true → numbers_on t (drop k route) ≡ persist_number t (slice_index route k) ∷ numbers_on t (drop (k + 1) route)
  rest_more k lt is = rw (add-one, drop-cons route k 0 lt, is) refl

  rest_same : (k : ℕ) → k < length route → event_is is_persist t (slice_index route k) ≡ false → numbers_on t (drop k route) ≡ numbers_on t (drop (k + 1) route)
  rest_same k lt is = rw (add-one, drop-cons route k 0 lt, is) refl

  pub along_same : (k next : ℕ) → k < length route → event_is is_persist t (slice_index route k) ≡ false → IsAlong t chain route k next → IsAlong t chain route (k + 1) next
  along_same k next lt is a = record {
    within = a.within;
    yes = λ e. a.yes (e ∙ sym (rest_same k lt is));
    no = λ e. a.no e ∙ rest_same k lt is;
  }

  at_parts : (next number : ℕ) → has_at chain next number ≡ true → (next < length chain) × (slice_index chain next ≡ number)
  at_parts next number h =
      let parts = and_parts (nat_lt next (length chain)) (slice_index chain next == number) h in
      (ltb-true next (length chain) parts.0, eqb-true (slice_index chain next) number parts.1)

  pub along_more : (k next : ℕ) → k < length route → event_is is_persist t (slice_index route k) ≡ true → has_at chain next (persist_number t (slice_index route k)) ≡ true → IsAlong t chain route k next → IsAlong t chain route (k + 1) (next + 1)
  along_more k next lt is h a =
      let at = at_parts next (persist_number t (slice_index route k)) h in
      let here : drop next chain ≡ persist_number t (slice_index route k) ∷ drop (next + 1) chain = rw add-one (drop-cons chain next 0 at.0 ∙ ap (λ x. x ∷ drop (suc next) chain) at.1) in
      record {
        within = omega (arith, at.0);
        yes = λ e. a.yes (here ∙ ap (λ xs. persist_number t (slice_index route k) ∷ xs) e ∙ sym (rest_more k lt is));
        no = λ e. let same : persist_number t (slice_index route k) ∷ drop (next + 1) chain ≡ persist_number t (slice_index route k) ∷ numbers_on t (drop (k + 1) route) = sym here ∙ a.no e ∙ rest_more k lt is in cc;
      }

  pub along_stops : (k next : ℕ) → k < length route → event_is is_persist t (slice_index route k) ≡ true → has_at chain next (persist_number t (slice_index route k)) ≡ false → IsAlong t chain route k next → chain ≡ numbers_on t route → ⊥
  along_stops k next lt is h a e = elim (cases_lt next (length chain)) [
    | inl within ↦
        let here : drop next chain ≡ slice_index chain next ∷ drop (suc next) chain = drop-cons chain next 0 within in
        let same : slice_index chain next ∷ drop (suc next) chain ≡ persist_number t (slice_index route k) ∷ numbers_on t (drop (k + 1) route) = sym here ∙ a.no e ∙ rest_more k lt is in
        let first : slice_index chain next ≡ persist_number t (slice_index route k) = cc in
        both_ways (has_at chain next (persist_number t (slice_index route k))) h (and_from (nat_lt next (length chain)) (slice_index chain next == persist_number t (slice_index route k)) (lt-ltb next (length chain) within) (eq-eqb (slice_index chain next) (persist_number t (slice_index route k)) first))
    | inr past ↦
        let none : [] ≡ persist_number t (slice_index route k) ∷ numbers_on t (drop (k + 1) route) = sym (drop_all next chain past) ∙ a.no e ∙ rest_more k lt is in
        absurd cc
  ]
