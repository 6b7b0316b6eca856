-- What the marks and their list have become, step by step.
use Rattle.std.specs.Prelude.{◌≡◌, ℕ, suc, ◌<◌, ◌⊎◌, Bool, true, List, length, slice_index}
use Rattle.strand_inputs.specs.declared.mode.Mode.{Mode}
use Rattle.strand_events.specs.declared.event.Event.{Event}
use Rattle.strand_events.specs.Order.{set_of, is_joined}
use Rattle.strand_order.specs.Graph.{is_edge}
use Rattle.strand_judge.specs.Judged.{Crash}
use Rattle.strand_judge.specs.Words.{crash_of}
use Rattle.strand_judge.specs.Worklist.{IsListed, Grows}
use Rattle.strand_judge.specs.Offered.{Asks, IsForced, IsServed}

-- the event that a number stands for, if there is one, is marked, and nothing else more
pub record IsMarkedMore (n since : ℕ) (marks : List Bool) (list : List ℕ) (marks' : List Bool) (list' : List ℕ) : Type 0 where
  pub listed : IsListed n marks' list'
  pub grows : Grows n marks list marks' list'
  pub on : (k : ℕ) → since ≡ suc k → set_of marks' k ≡ true
  pub only : (k : ℕ) → set_of marks' k ≡ true → (set_of marks k ≡ true) ⊎ (since ≡ suc k)

-- what event j brings with it is marked, and nothing else more
pub record IsBrought (mode : Mode) (t : List Event) (crash : Crash) (j : ℕ) (marks : List Bool) (list : List ℕ) (marks' : List Bool) (list' : List ℕ) : Type 0 where
  pub listed : IsListed (length t) marks' list'
  pub grows : Grows (length t) marks list marks' list'
  pub served : IsServed mode t crash (set_of marks') j
  pub only : (i : ℕ) → set_of marks' i ≡ true → (set_of marks i ≡ true) ⊎ ((is_edge mode t i j ≡ true) ⊎ Asks t crash j i)

-- the joined persists up to a place of their list are marked, and nothing else
pub record AreJoined (t : List Event) (n : ℕ) (persists joined : List ℕ) (marks : List Bool) (list : List ℕ) : Type 0 where
  pub listed : IsListed (length t) marks list
  pub only : (k : ℕ) → set_of marks k ≡ true → is_joined t k ≡ true
  pub all : (m : ℕ) → m < n → set_of marks (slice_index persists (slice_index joined m)) ≡ true

-- the words up to a place have their forced persists marked, and nothing else more is
pub record AreForced (t : List Event) (first found firsts : List ℕ) (n : ℕ) (marks : List Bool) (list : List ℕ) (marks' : List Bool) (list' : List ℕ) : Type 0 where
  pub listed : IsListed (length t) marks' list'
  pub grows : Grows (length t) marks list marks' list'
  pub only : (k : ℕ) → set_of marks' k ≡ true → (set_of marks k ≡ true) ⊎ ((word : ℕ) × IsForced t (crash_of first found) word k)
  pub all : (place : ℕ) → place < n → (slice_index first place ≡ slice_index found place → ⊥) → (q : ℕ) → slice_index firsts place ≡ suc q → set_of marks' q ≡ true
