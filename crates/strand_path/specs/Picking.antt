-- Persists that are picked by their levels, and the route through them.
use Rattle.std.specs.Prelude.{◌≡◌, ℕ, suc, ◌<◌, ◌≤◌, Bool, true, false, ◌&&◌, ◌==◌, List, [], ◌∷◌, ◌++◌, length, slice_index}
use Rattle.strand_inputs.specs.declared.mode.Mode.{Mode}
use Rattle.strand_events.specs.declared.event.Event.{Event}
use Rattle.strand_events.specs.Trace.{is_persist, event_is}
use Rattle.strand_order.specs.Graph.{EdgePath, LeadsTo}
use Rattle.strand_path.specs.Checked.{greatest_below}

-- event k is a persist of the level
abbrev pub is_of_level : List Event → List ℕ → ℕ → ℕ → Bool
is_of_level t levels level k = event_is is_persist t k && (slice_index levels k == level)

-- the first number that passes
pub record IsFirst (test : ℕ → Bool) (p : ℕ) : Type 0 where
  pub passes : test p ≡ true
  pub none : (k : ℕ) → k < p → test k ≡ false

pub record IsSome (n : ℕ) (test : ℕ → Bool) : Type 0 where
  pub some_ : ℕ
  pub within : some_ < n
  pub passes : test some_ ≡ true

-- the first persist of a level that a path leads from to persist q
pub record IsPick (mode : Mode) (t : List Event) (levels : List ℕ) (q level p : ℕ) : Type 0 where
  pub persist : event_is is_persist t p ≡ true
  pub level_is : slice_index levels p ≡ level
  pub path : LeadsTo mode t p q
  pub first : (r : ℕ) → event_is is_persist t r ≡ true → slice_index levels r ≡ level → LeadsTo mode t r q → p ≤ r

-- from place n on the members are picked
pub record ArePicked (mode : Mode) (t : List Event) (levels chain : List ℕ) (n : ℕ) : Type 0 where
  pub long : length chain ≡ greatest_below t levels (length t)
  pub persist : (k : ℕ) → n ≤ k → k < length chain → event_is is_persist t (slice_index chain k) ≡ true
  pub level : (k : ℕ) → n ≤ k → k < length chain → slice_index levels (slice_index chain k) ≡ suc k
  pub last : (k : ℕ) → n ≤ k → suc k ≡ length chain → (p : ℕ) → event_is is_persist t p ≡ true → slice_index levels p ≡ suc k → slice_index chain k ≤ p
  pub pick : (k : ℕ) → n ≤ k → suc k < length chain → IsPick mode t levels (slice_index chain (suc k)) (suc k) (slice_index chain k)

-- a path's events after p, up to q, were put at the end
pub record IsAppendedPath (mode : Mode) (t : List Event) (p q : ℕ) (old new : List ℕ) : Type 0 where
  pub between : List ℕ
  pub path : EdgePath mode t p between q
  pub made : new ≡ old ++ (between ++ q ∷ [])
