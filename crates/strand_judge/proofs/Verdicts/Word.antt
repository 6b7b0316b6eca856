-- Serves judge, its yes and no, and the word of a no.
-- Where a list of values differs from what was found, the set's image differs from the crash image.
use Rattle.std.proofs.Common.{◌≡◌, ℕ, ◌<◌, true, List, length, sym, ap, ◌∙◌, arith}
use Rattle.std.specs.Prelude.{slice_index, ◌==◌, nat_lt}
use Rattle.std.proofs.lemmas.Bool.{and_parts, and_from, eqb-true, eq-eqb, ltb-true, lt-ltb}
use Rattle.strand_events.specs.declared.event.Event.{Event}
use Rattle.strand_events.specs.Order.{Set, image}
use Rattle.strand_judge.specs.Judged.{Agrees}
use Rattle.strand_base.specs.Places.{address_of, persistent_place}
use Rattle.strand_judge.specs.Words.{crash_of}
use Rattle.strand_judge.specs.Images.{at_word, IsImageOf, DifferFirst, AreSame}
use Rattle.strand_judge.specs.Verdicts.{IsFirstDifference}
use Rattle.strand_judge.proofs.Verdicts.Image.{place_again}

module _ (t : List Event) (all : Set) (first found values : List ℕ) (same : length first ≡ length found) (i : IsImageOf t all first values) where
  -- a word of the crash image, by its place
  has_parts : (word : ℕ) → (crash_of first found).has word ≡ true → (word ≡ address_of (persistent_place word)) × (persistent_place word < length found)
  has_parts word h =
      let parts = and_parts (word == address_of (persistent_place word)) (nat_lt (persistent_place word) (length found)) h in
      (eqb-true word (address_of (persistent_place word)) parts.0, ltb-true (persistent_place word) (length found) parts.1)

  -- the list has the image's value at each word
  value_is : (word : ℕ) → (crash_of first found).has word ≡ true → at_word values word ≡ image t all (at_word first) word
  value_is word h =
      let parts = has_parts word h in
      i.value (persistent_place word) (omega (arith, parts.1, same)) ∙ ap (image t all (at_word first)) (sym parts.0)

  agrees_at : (word : ℕ) → (crash_of first found).has word ≡ true → slice_index values (persistent_place word) ≡ slice_index found (persistent_place word) → Agrees t (crash_of first found) all word
  agrees_at word h e = sym (value_is word h) ∙ e

  pub all_agree : AreSame values found → (word : ℕ) → (crash_of first found).has word ≡ true → Agrees t (crash_of first found) all word
  all_agree alike word h = agrees_at word h (alike (persistent_place word) (has_parts word h).1)

  pub differs_first : (place : ℕ) → DifferFirst values found place → IsFirstDifference t (crash_of first found) all (address_of place)
  differs_first place d =
      let again = place_again place in
      let within : persistent_place (address_of place) < length found = omega (arith, again, d.within) in
      let h : (crash_of first found).has (address_of place) ≡ true = and_from (address_of place == address_of (persistent_place (address_of place))) (nat_lt (persistent_place (address_of place)) (length found)) (eq-eqb (address_of place) (address_of (persistent_place (address_of place))) (ap address_of (sym again))) (lt-ltb (persistent_place (address_of place)) (length found) within) in
      record {
        has = h;
        differs = λ agrees. d.differ (ap (slice_index values) (sym again) ∙ value_is (address_of place) h ∙ agrees ∙ ap (slice_index found) again);
        first = λ other below has.
            let parts = has_parts other has in
            let before : persistent_place other < place = omega (arith, parts.0, below) in
            agrees_at other has (d.same (persistent_place other) before);
      }
