-- The wait of an access: for each core, how many of its first persists must be durable before the access's own, where it is one, is sent.
use Rattle.std.specs.Prelude.{◌≡◌, ℕ, zero, suc, ◌+◌, ◌≤◌, ◌⊎◌, max, Bool, true, false, ◌&&◌, not, ◌==◌, nat_lt, List, [], ◌∷◌, length, if◌then◌else◌}
use Rattle.strand_base.specs.Counting.{any_below}
use Rattle.strand_inputs.specs.declared.mode.Mode.{Mode}
use Rattle.strand_events.specs.declared.event.Event.{Event}
use Rattle.strand_events.specs.Trace.{is_persist, core_at, event_is, same_strand}
use Rattle.strand_events.specs.Order.{Set, directly_before, Before}
use Rattle.strand_events.specs.Greatest.{max_below}
use Rattle.strand_events.specs.Prefixes.{made_below}

-- how many persists the core made at or before its access a, where a is of another strand than x
abbrev pub made_at : Mode → List Event → ℕ → ℕ → ℕ → ℕ
made_at mode t core x a = if (core_at t a == core) && not (same_strand mode t a x) then made_below t core (a + 1) else 0

-- what an access directly before x hands on to it, besides its own wait
abbrev pub handed : Mode → List Event → (ℕ → ℕ) → ℕ → ℕ → ℕ → ℕ
handed mode t waits core x a = if directly_before mode t a x then max (waits a) (made_at mode t core x a) else 0

-- the wait of access x for the core, handed on at most n times
abbrev pub wait_within : ℕ → Mode → List Event → ℕ → ℕ → ℕ
wait_within zero mode t core x = 0
wait_within (suc n) mode t core x = max_below x (handed mode t (wait_within n mode t core) core x)

-- the wait of access x for the core
abbrev pub wait : Mode → List Event → ℕ → ℕ → ℕ
wait mode t core x = wait_within x mode t core x

-- one number for each of eight cores
abbrev pub each_core : (ℕ → ℕ) → List ℕ
each_core f = f 0 ∷ f 1 ∷ f 2 ∷ f 3 ∷ f 4 ∷ f 5 ∷ f 6 ∷ f 7 ∷ []

-- the wait of access x
abbrev pub wait_vector : Mode → List Event → ℕ → List ℕ
wait_vector mode t x = each_core (λ core. wait mode t core x)

-- the wait of access x counts persist p
abbrev pub wait_counts : Mode → List Event → ℕ → ℕ → Bool
wait_counts mode t x p = event_is is_persist t p && nat_lt (made_below t (core_at t p) p) (wait mode t (core_at t p) x)

-- each persist that the wait of access x counts is durable
abbrev pub is_met : Mode → List Event → Set → ℕ → Bool
is_met mode t durable x = not (any_below (length t) (λ p. wait_counts mode t x p && not (durable p)))

-- access a, at or after persist p of its core, comes directly before access y of another strand
pub record Crosses (mode : Mode) (t : List Event) (p a y : ℕ) : Type 0 where
  pub core : core_at t p ≡ core_at t a
  pub upto : p ≤ a
  pub direct : directly_before mode t a y ≡ true
  pub apart : same_strand mode t a y ≡ false

-- and y is access x, or is before it
abbrev pub IsHandedTo : Mode → List Event → ℕ → ℕ → Type 0
IsHandedTo mode t p x = (a y : ℕ) × Crosses mode t p a y × ((y ≡ x) ⊎ Before mode t y x)
