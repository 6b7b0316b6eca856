-- The persists that have the crash image's value, and what a settled set holds because of them.
use Rattle.std.specs.Prelude.{◌≡◌, ℕ, zero, suc, ◌+◌, ◌<◌, ◌≤◌, true, ◌&&◌, ◌==◌, List, length, slice_index, slice_set, if◌then◌else◌}
use Rattle.strand_base.specs.Places.{address_of, persistent_place}
use Rattle.strand_inputs.specs.declared.mode.Mode.{Mode}
use Rattle.strand_events.specs.declared.event.Event.{Event}
use Rattle.strand_events.specs.Trace.{is_persist, word_of, value_of, word_at, value_at, event_is}
use Rattle.strand_events.specs.Order.{Set}
use Rattle.strand_order.specs.Graph.{is_edge}
use Rattle.strand_judge.specs.Judged.{Crash, Offers}

-- m is one more than the first persist from k on that offers the word's value, or 0 where there is none
abbrev pub IsFirstOffer : List Event → Crash → ℕ → ℕ → ℕ → Type 0
IsFirstOffer t crash word k zero = (r : ℕ) → k ≤ r → Offers t crash word r → ⊥
IsFirstOffer t crash word k (suc q) = (k ≤ q) × Offers t crash word q × ((r : ℕ) → k ≤ r → r < q → Offers t crash word r → ⊥)

-- persist q is the next that offers the word's value after a persist p that doesn't have it
pub record Asks (t : List Event) (crash : Crash) (p q : ℕ) : Type 0 where
  pub persist : event_is is_persist t p ≡ true
  pub has : crash.has (word_at t p) ≡ true
  pub differs : value_at t p ≡ crash.found (word_at t p) → ⊥
  pub next : IsFirstOffer t crash (word_at t p) (suc p) (suc q)

-- persist q is the first that offers the word's value, which isn't the initial one
pub record IsForced (t : List Event) (crash : Crash) (word q : ℕ) : Type 0 where
  pub has : crash.has word ≡ true
  pub differs : crash.initial word ≡ crash.found word → ⊥
  pub first : IsFirstOffer t crash word 0 (suc q)

-- the next persist with the found value, once event k is noted
abbrev pub nexts_after : Event → ℕ → List ℕ → List ℕ → List ℕ
nexts_after e k firsts nexts = if is_persist e then slice_set nexts k (slice_index firsts (persistent_place (word_of e))) else nexts

-- the first persist with the found value
abbrev pub first_offers_after : Event → ℕ → List ℕ → List ℕ → List ℕ
first_offers_after e k found firsts = if is_persist e && (value_of e == slice_index found (persistent_place (word_of e))) then slice_set firsts (persistent_place (word_of e)) (k + 1) else firsts

-- one more than the persist that event j asks for, where its value isn't the found one, or 0
abbrev pub asked_of : Event → ℕ → List ℕ → List ℕ → ℕ
asked_of e j found nexts = if is_persist e then (if value_of e == slice_index found (persistent_place (word_of e)) then 0 else slice_index nexts j) else 0

-- what an event of the set brings with it: the earlier events of its edges, and the persist that it asks for
pub record IsServed (mode : Mode) (t : List Event) (crash : Crash) (set : Set) (j : ℕ) : Type 0 where
  pub edges : (i : ℕ) → is_edge mode t i j ≡ true → set i ≡ true
  pub asks : (q : ℕ) → Asks t crash j q → set q ≡ true

-- for each word, by its place, the first persist from k on that offers its value; and for each persist from k on, the next one after it
pub record AreOffered (t : List Event) (crash : Crash) (words k : ℕ) (firsts nexts : List ℕ) : Type 0 where
  pub long : length firsts ≡ words
  pub long_nexts : length nexts ≡ length t
  pub first : (place : ℕ) → place < words → IsFirstOffer t crash (address_of place) k (slice_index firsts place)
  pub next : (p : ℕ) → k ≤ p → event_is is_persist t p ≡ true → IsFirstOffer t crash (word_at t p) (suc p) (slice_index nexts p)
