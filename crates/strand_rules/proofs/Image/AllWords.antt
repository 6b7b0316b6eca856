-- Serves images_follow_the_trace: what one event and one persist more do to the persistent words of an image.
use Rattle.std.proofs.Common.{◌≡◌, ℕ, zero, suc, ◌+◌, ◌<◌, ◌≤◌, true, List, [], ◌∷◌, ◌++◌, length, map, set, get_or, refl, sym, ap, ◌∙◌, arith}
use Rattle.std.specs.Prelude.{slice_set, slice_index}
use Rattle.std.specs.List.{range_with_len}
use Rattle.std.proofs.lemmas.List.FromFn.{length-map-range_with_len}
use Rattle.strand_events.specs.declared.event.Event.{Event}
use Rattle.strand_events.specs.Trace.{is_persist, word_at, value_at, event_is}
use Rattle.strand_events.specs.Order.{Set, image}
use Rattle.strand_base.specs.Places.{persistent_place, address_of}
use Rattle.strand_rules.specs.Images.{persistent_image}
use Rattle.strand_events.proofs.EventWithin.{event_within}
use Rattle.strand_rules.proofs.Marks.{map_alike}
use Rattle.strand_rules.proofs.Sets.{with_}
use Rattle.strand_rules.proofs.Image.OneWord.{image_with, image_other, image_new}

-- as many as the initial words
pub image_length : (words : List ℕ) (t : List Event) (set : Set) → length (persistent_image words t set) ≡ length words
unfolding persistent_image
image_length words t set = length-map-range_with_len _ 0 (length words)

-- a list of values at numbers that follow each other, one of which changes
set_in_range : (f g : ℕ → ℕ) (a n i v : ℕ) → i < n → g (a + i) ≡ v → ((j : ℕ) → (j ≡ a + i → ⊥) → g j ≡ f j) → map g (range_with_len a n) ≡ set (map f (range_with_len a n)) i v
set_in_range f g a zero i v lt here others = absurd (omega arith)
set_in_range f g a (suc n) zero v lt here others =
    let first : a + 0 ≡ a = omega arith in
    let head : g a ≡ v = ap g (sym first) ∙ here in
    rw head (ap (λ l. v ∷ l) (same_range f g (a + 1) n (λ j le. others j (λ e. omega (arith, e, le)))))
  where
    same_range : (f g : ℕ → ℕ) (a n : ℕ) → ((j : ℕ) → a ≤ j → g j ≡ f j) → map g (range_with_len a n) ≡ map f (range_with_len a n)
    same_range f g a zero all = refl
    same_range f g a (suc n) all = rw (all a (omega arith)) (ap (λ l. f a ∷ l) (same_range f g (a + 1) n (λ j le. all j (omega (arith, le)))))
set_in_range f g a (suc n) (suc i) v lt here others =
    let place : a + 1 + i ≡ a + suc i = omega arith in
    let head : g a ≡ f a = others a (λ e. omega (arith, e)) in
    rw head (ap (λ l. f a ∷ l) (set_in_range f g (a + 1) n i v (omega arith) (ap g place ∙ here) (λ j ne. others j (λ e. ne (e ∙ sym place)))))

-- a new event isn't in the set
pub image_more : (words : List ℕ) (t : List Event) (e : Event) (set : Set) → (set (length t) ≡ true → ⊥) → persistent_image words (t ++ e ∷ []) set ≡ persistent_image words t set
unfolding persistent_image
image_more words t e set out = map_alike _ _ (range_with_len 0 (length words)) (λ i. image_new t e set (λ word. slice_index words (persistent_place word)) (address_of i) out)

-- one persist more, whose word is one of the persistent words, and no later one of its word
pub image_one : (words : List ℕ) (t : List Event) (set : Set) (p : ℕ) → event_is is_persist t p ≡ true
    → ((q : ℕ) → p < q → event_is is_persist t q ≡ true → word_at t q ≡ word_at t p → set q ≡ true → ⊥)
    → persistent_place (word_at t p) < length words → word_at t p ≡ address_of (persistent_place (word_at t p))
    → persistent_image words t (with_ p set) ≡ slice_set (persistent_image words t set) (persistent_place (word_at t p)) (value_at t p)
unfolding persistent_image
image_one words t set p is last inside address =
    let initial : ℕ → ℕ = λ word. slice_index words (persistent_place word) in
    set_in_range
    (λ i. image t set initial (address_of i))
    (λ i. image t (with_ p set) initial (address_of i))
    0 (length words) (persistent_place (word_at t p)) (value_at t p) inside
    (let zero_more : 0 + persistent_place (word_at t p) ≡ persistent_place (word_at t p) = omega arith in
    rw (zero_more, ← address) (image_with t set initial p is last (length t) (event_within is_persist t p is)))
    (λ j ne. image_other t set initial p (length t) (address_of j) (λ e. ne (omega (arith, e))))

-- Before the first event the image is the initial words.
pub image_begins : (words : List ℕ) (set : Set) → persistent_image words [] set ≡ words
unfolding persistent_image
image_begins words set = go words 0 (λ i. slice_index words (persistent_place (address_of i))) (λ i lt. let place : persistent_place (address_of (0 + i)) ≡ i = omega arith in ap (λ j. slice_index words j) place)
  where
    go : (xs : List ℕ) (a : ℕ) (f : ℕ → ℕ) → ((i : ℕ) → i < length xs → f (a + i) ≡ get_or xs i 0) → map f (range_with_len a (length xs)) ≡ xs
    go [] a f h = refl
    go (x ∷ xs) a f h =
        let first : a + 0 ≡ a = omega arith in
        let head : f a ≡ x = ap f (sym first) ∙ h 0 (omega arith) in
        rw head (ap (λ l. x ∷ l) (go xs (a + 1) f (λ i lt. let place : a + 1 + i ≡ a + suc i = omega arith in ap f place ∙ h (suc i) (omega (arith, lt)))))
