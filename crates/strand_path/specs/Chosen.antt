-- The level of a persist, and the chosen chain.
use Rattle.std.specs.Prelude.{◌≡◌, ℕ, suc, ◌<◌, ◌≤◌, List, [], ◌∷◌, ◌++◌, length, slice_index}
use Rattle.strand_inputs.specs.declared.mode.Mode.{Mode}
use Rattle.strand_events.specs.declared.event.Event.{Event}
use Rattle.strand_events.specs.Trace.{persists_of}
use Rattle.strand_events.specs.Order.{Before}
use Rattle.strand_path.specs.Chains.{IsChain, events_of}

-- n is the number of members of a longest chain that ends in persist p
pub record IsLevel (mode : Mode) (t : List Event) (p n : ℕ) : Type 0 where
  pub front : List ℕ
  pub chain : IsChain mode t (front ++ p ∷ [])
  pub members : n ≡ suc (length front)
  pub most : (other : List ℕ) → IsChain mode t (other ++ p ∷ []) → suc (length other) ≤ n

-- A chain as long as any, whose members have the levels from 1 on. The last is the first persist of its level, and
-- each other one the first persist of its level that is before the next member.
pub record IsChosen (mode : Mode) (t : List Event) (chain : List ℕ) : Type 0 where
  pub top : (p n : ℕ) → IsLevel mode t p n → n ≤ length chain
  pub level : (k : ℕ) → k < length chain → IsLevel mode t (slice_index chain k) (suc k)
  pub last : (k : ℕ) → suc k ≡ length chain → (p : ℕ) → IsLevel mode t p (suc k) → slice_index chain k ≤ p
  pub before : (k : ℕ) → suc k < length chain → Before mode t (slice_index chain k) (slice_index chain (suc k))
  pub first : (k : ℕ) → suc k < length chain → (p : ℕ) → IsLevel mode t p (suc k) → Before mode t p (slice_index chain (suc k)) → slice_index chain k ≤ p

-- the chosen chain in the numbers of its persists
pub record IsChosenChain (mode : Mode) (t : List Event) (chain : List ℕ) : Type 0 where
  pub numbers : (k : ℕ) → k < length chain → slice_index chain k < length (persists_of t)
  pub chosen : IsChosen mode t (events_of t chain)
