-- Serves clauses grows and stores of images_follow_the_trace: one event and one persist more, at one word.
use Rattle.std.proofs.Common.{◌≡◌, ℕ, zero, suc, ◌<◌, ◌≤◌, true, false, ◌||◌, ◌&&◌, inl, inr, List, [], ◌∷◌, ◌++◌, length, refl, sym, ap, ◌∙◌, arith}
use Rattle.std.specs.Prelude.{◌==◌}
use Rattle.std.proofs.lemmas.Bool.{cases_eq, and_parts, and_from, or_left, eqb-true, eq-eqb, ne_eqb, false_from_ne_true}
use Rattle.strand_base.proofs.BelowBound.{at_or_below, get_more}
use Rattle.strand_events.specs.declared.event.Event.{Event}
use Rattle.strand_events.specs.Trace.{is_persist, word_at, value_at, value_in, event_is}
use Rattle.strand_events.specs.Order.{Set, sets_word, image_below, image}
use Rattle.strand_events.proofs.LongerTrace.{event_is_kept, word_kept}
use Rattle.strand_events.proofs.PersistOrder.Images.{image_yes, image_no, image_alike}
use Rattle.strand_rules.proofs.Order.Sets.Event.{length_grown}
use Rattle.strand_rules.proofs.Sets.{with_, with_cases}

-- one more persist to the word, with no later one in the set: its value
pub image_with : (t : List Event) (set : Set) (initial : ℕ → ℕ) (p : ℕ) → event_is is_persist t p ≡ true → ((q : ℕ) → p < q → event_is is_persist t q ≡ true → word_at t q ≡ word_at t p → set q ≡ true → ⊥) → (n : ℕ) → p < n → image_below t (with_ p set) initial n (word_at t p) ≡ value_at t p
image_with t set initial p is last zero lt = absurd (omega arith)
image_with t set initial p is last (suc n) lt = elim (cases_eq p n) [
  | inl e ↦ image_yes t (with_ p set) initial n (word_at t p) (and_from (event_is is_persist t n && with_ p set n) (word_at t n == word_at t p) (and_from (event_is is_persist t n) (with_ p set n) (ap (event_is is_persist t) (sym e) ∙ is) (or_left (n == p) (set n) (eq-eqb n p (sym e)))) (eq-eqb (word_at t n) (word_at t p) (ap (word_at t) (sym e)))) ∙ ap (value_at t) (sym e)
  | inr ne ↦
      let below : p < n = at_or_below lt ne in
      image_no t (with_ p set) initial n (word_at t p) (false_from_ne_true (sets_word t (with_ p set) (word_at t p) n) (λ h.
      let one = and_parts (event_is is_persist t n && with_ p set n) (word_at t n == word_at t p) h in
      let two = and_parts (event_is is_persist t n) (with_ p set n) one.0 in
      elim (with_cases p set n two.1) [ inl same ↦ ne (sym same) | inr old ↦ last n below two.0 (eqb-true (word_at t n) (word_at t p) one.1) old ]))
      ∙ image_with t set initial p is last n below
]

-- at another word nothing changes
pub image_other : (t : List Event) (set : Set) (initial : ℕ → ℕ) (p n w : ℕ) → (word_at t p ≡ w → ⊥) → image_below t (with_ p set) initial n w ≡ image_below t set initial n w
image_other t set initial p n w ne = image_alike t (with_ p set) set initial n w (λ k lt is word. elim (cases_eq k p) [ inl e ↦ absurd (ne (ap (word_at t) (sym e) ∙ word)) | inr other ↦ ap (λ b. b || set k) (ne_eqb k p other) ])

-- events that the set doesn't hold leave the image
image_grown : (t : List Event) (e : Event) (set : Set) (initial : ℕ → ℕ) (n w : ℕ) → n ≤ length t → image_below (t ++ e ∷ []) set initial n w ≡ image_below t set initial n w
image_grown t e set initial zero w le = refl
image_grown t e set initial (suc n) w le = cc (event_is_kept t e is_persist n le, word_kept t e n le, ap value_in (get_more t e n le), image_grown t e set initial n w (omega arith))

pub image_new : (t : List Event) (e : Event) (set : Set) (initial : ℕ → ℕ) (w : ℕ) → (set (length t) ≡ true → ⊥) → image (t ++ e ∷ []) set initial w ≡ image t set initial w
image_new t e set initial w out =
    let off : sets_word (t ++ e ∷ []) set w (length t) ≡ false = false_from_ne_true (sets_word (t ++ e ∷ []) set w (length t)) (λ h.
    let one = and_parts (event_is is_persist (t ++ e ∷ []) (length t) && set (length t)) (word_at (t ++ e ∷ []) (length t) == w) h in
    out ((and_parts (event_is is_persist (t ++ e ∷ []) (length t)) (set (length t)) one.0).1)) in
    ap (λ k. image_below (t ++ e ∷ []) set initial k w) (length_grown t e) ∙ image_no (t ++ e ∷ []) set initial (length t) w off ∙ image_grown t e set initial (length t) w (omega arith)
