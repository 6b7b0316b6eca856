-- Which sets of persists a crash image may have come from.
use Rattle.std.specs.Prelude.{◌≡◌, ◌⊎◌, ℕ, Bool, true, ◌&&◌, List}
use Rattle.strand_inputs.specs.declared.mode.Mode.{Mode}
use Rattle.strand_events.specs.declared.event.Event.{Event}
use Rattle.strand_events.specs.Trace.{is_persist, word_at, value_at, event_is}
use Rattle.strand_events.specs.Order.{Set, IsDownwardClosed, HoldsJoined, image}

-- downward-closed, and holds each joined persist
pub record IsAllowed (mode : Mode) (t : List Event) (set : Set) : Type 0 where
  pub closed : IsDownwardClosed mode t set
  pub joined : HoldsJoined t set

-- the words of the crash image, their initial values and their values after the crash
pub record Crash : Type 0 where
  pub has : ℕ → Bool
  pub initial : ℕ → ℕ
  pub found : ℕ → ℕ

-- the set's image has the crash image's value at the word
abbrev pub Agrees : List Event → Crash → Set → ℕ → Type 0
Agrees t crash set word = image t set crash.initial word ≡ crash.found word

-- event p is a persist to the word with the crash image's value
pub record Offers (t : List Event) (crash : Crash) (word p : ℕ) : Type 0 where
  pub persist : event_is is_persist t p ≡ true
  pub to : word_at t p ≡ word
  pub value : value_at t p ≡ crash.found word

-- allowed, and its image is the crash image
pub record IsJudged (mode : Mode) (t : List Event) (crash : Crash) (set : Set) : Type 0 where
  pub allowed : IsAllowed mode t set
  pub agrees : (word : ℕ) → crash.has word ≡ true → Agrees t crash set word

-- allowed, and at each word its image agrees, or no persist outside the set has the crash image's value
pub record IsSettled (mode : Mode) (t : List Event) (crash : Crash) (set : Set) : Type 0 where
  pub allowed : IsAllowed mode t set
  pub settled : (word : ℕ) → crash.has word ≡ true → Agrees t crash set word ⊎ ((p : ℕ) → Offers t crash word p → set p ≡ true)

-- each persist of the one set is in the other
abbrev pub IsSubset : List Event → Set → Set → Type 0
IsSubset t set other = (p : ℕ) → event_is is_persist t p ≡ true → set p ≡ true → other p ≡ true

-- the persists that are in each of two sets
abbrev pub both : Set → Set → Set
both set other = λ p. set p && other p

abbrev pub all_persists : Set
all_persists = λ p. true

-- a judged set that is within each judged set
pub record IsLeastJudged (mode : Mode) (t : List Event) (crash : Crash) (set : Set) : Type 0 where
  pub judged : IsJudged mode t crash set
  pub least : (other : Set) → IsJudged mode t crash other → IsSubset t set other

-- a settled set that is within each settled set
pub record IsLeastSettled (mode : Mode) (t : List Event) (crash : Crash) (set : Set) : Type 0 where
  pub settled : IsSettled mode t crash set
  pub least : (other : Set) → IsSettled mode t crash other → IsSubset t set other
