-- The image of a set as a list, and where two lists differ.
use Rattle.std.specs.Prelude.{◌≡◌, ℕ, ◌<◌, List, length, slice_index}
use Rattle.strand_events.specs.declared.event.Event.{Event}
use Rattle.strand_events.specs.Order.{Set, image_below}
use Rattle.strand_base.specs.Places.{address_of, persistent_place}

-- the value of a word in a list by places
abbrev pub at_word : List ℕ → ℕ → ℕ
at_word values word = slice_index values (persistent_place word)

-- the list has the values of the set's image among the events below n
pub record IsImageBelow (t : List Event) (set : Set) (initial : List ℕ) (n : ℕ) (values : List ℕ) : Type 0 where
  pub long : length values ≡ length initial
  pub value : (place : ℕ) → place < length initial → slice_index values place ≡ image_below t set (at_word initial) n (address_of place)

abbrev pub IsImageOf : List Event → Set → List ℕ → List ℕ → Type 0
IsImageOf t set initial values = IsImageBelow t set initial (length t) values

-- the place of the first difference of two lists
pub record DifferFirst (xs ys : List ℕ) (place : ℕ) : Type 0 where
  pub within : place < length ys
  pub differ : slice_index xs place ≡ slice_index ys place → ⊥
  pub same : (k : ℕ) → k < place → slice_index xs k ≡ slice_index ys k

abbrev pub AreSame : List ℕ → List ℕ → Type 0
AreSame xs ys = (k : ℕ) → k < length ys → slice_index xs k ≡ slice_index ys k
