-- Serves judge, by image_of: the image of a set as a list, one event more.
use Rattle.std.proofs.Common.{◌≡◌, ℕ, ◌+◌, ◌<◌, true, false, inl, inr, List, length, sym, ap, ◌∙◌, arith, add-one, subst, cond}
use Rattle.std.specs.Prelude.{slice_index, slice_set, ◌&&◌, ◌==◌}
use Rattle.std.proofs.lemmas.Bool.{cases_eq, cases_Bool, and_parts, and_from, eqb-true, eq-eqb, both_ways, false_from_ne_true}
use Rattle.std.proofs.lemmas.List.{get_or-set_other, get_or-set_same, length-set}
use Rattle.strand_events.specs.declared.event.Event.{Event}
use Rattle.strand_events.specs.Trace.{is_persist, word_at, value_at, event_is}
use Rattle.strand_events.specs.Order.{Set, sets_word}
use Rattle.strand_events.proofs.PersistOrder.Images.{image_yes, image_no}
use Rattle.strand_base.specs.Places.{address_of, persistent_place}
use Rattle.strand_events.specs.Places.{LieIn}
use Rattle.strand_judge.specs.Images.{at_word, IsImageBelow}

pub place_again : (k : ℕ) → persistent_place (address_of k) ≡ k
place_again k = omega arith

module _ (t : List Event) (all : Set) (initial : List ℕ) where
  -- the event is no persist of the set
  pub image_kept : (n : ℕ) (values : List ℕ) → (event_is is_persist t n && all n) ≡ false → IsImageBelow t all initial n values → IsImageBelow t all initial (n + 1) values
  image_kept n values off i = record {
    long = i.long;
    value = λ k lt.
        let none : sets_word t all (address_of k) n ≡ false = false_from_ne_true (sets_word t all (address_of k) n) (λ h. both_ways (event_is is_persist t n && all n) off (and_parts (event_is is_persist t n && all n) (word_at t n == address_of k) h).0) in
        i.value k lt ∙ sym (rw add-one (image_no t all (at_word initial) n (address_of k) none));
  }

  -- it is one
  pub image_stored : (n : ℕ) (values : List ℕ) → event_is is_persist t n ≡ true → all n ≡ true → LieIn t (length initial) → IsImageBelow t all initial n values
      → IsImageBelow t all initial (n + 1) (slice_set values (persistent_place (word_at t n)) (value_at t n))
  image_stored n values is on lie i = record {
    long = length-set values (persistent_place (word_at t n)) (value_at t n) ∙ i.long;
    value = λ k lt. elim (cases_eq k (persistent_place (word_at t n))) [
      | inl e ↦
          let word : word_at t n ≡ address_of k = (lie n is).0 ∙ ap address_of (sym e) in
          let here : sets_word t all (address_of k) n ≡ true = and_from (event_is is_persist t n && all n) (word_at t n == address_of k) (and_from (event_is is_persist t n) (all n) is on) (eq-eqb (word_at t n) (address_of k) word) in
          let within : persistent_place (word_at t n) < length values = omega (arith, (lie n is).1, i.long) in
          ap (slice_index (slice_set values (persistent_place (word_at t n)) (value_at t n))) e ∙ get_or-set_same values (persistent_place (word_at t n)) (value_at t n) 0 within ∙ sym (rw add-one (image_yes t all (at_word initial) n (address_of k) here))
      | inr ne ↦
          let none : sets_word t all (address_of k) n ≡ false = false_from_ne_true (sets_word t all (address_of k) n) (λ h.
          let word : word_at t n ≡ address_of k = eqb-true (word_at t n) (address_of k) (and_parts (event_is is_persist t n && all n) (word_at t n == address_of k) h).1 in
          ne (sym (ap persistent_place word ∙ place_again k))) in
          get_or-set_other values (persistent_place (word_at t n)) k (value_at t n) 0 ne ∙ i.value k lt ∙ sym (rw add-one (image_no t all (at_word initial) n (address_of k) none))
    ];
  }

  -- either way
  pub image_step : (n : ℕ) (values new : List ℕ) → LieIn t (length initial) → new ≡ cond (event_is is_persist t n && all n) (slice_set values (persistent_place (word_at t n)) (value_at t n)) values → IsImageBelow t all initial n values → IsImageBelow t all initial (n + 1) new
  image_step n values new lie made i = elim (cases_Bool (event_is is_persist t n && all n)) [
    | inl on ↦
        let parts = and_parts (event_is is_persist t n) (all n) on in
        let same : new ≡ slice_set values (persistent_place (word_at t n)) (value_at t n) = made ∙ ap (λ b. cond b (slice_set values (persistent_place (word_at t n)) (value_at t n)) values) on in
        subst (λ xs. IsImageBelow t all initial (n + 1) xs) (sym same) (image_stored n values parts.0 parts.1 lie i)
    | inr off ↦
        let same : new ≡ values = made ∙ ap (λ b. cond b (slice_set values (persistent_place (word_at t n)) (value_at t n)) values) off in
        subst (λ xs. IsImageBelow t all initial (n + 1) xs) (sym same) (image_kept n values off i)
  ]
