-- Serves Pipeline::dispatch: the first item of a core's queue, by what its caller knows of it.
use Rattle.std.proofs.Common.{◌≡◌, ℕ, ◌+◌, ◌<◌, true, false, inl, inr, sym, ap, ◌∙◌, arith, length}
use Rattle.std.specs.Prelude.{slice_set, Some, None, IfSome, if◌then◌else◌}
use Rattle.std.specs.declared.option.Option.{Option}
use Rattle.std.proofs.lemmas.Bool.{cases_Bool}
use Rattle.strand_inputs.specs.Settings.{Settings}
use Rattle.strand_events.specs.Trace.{event_is, is_persist}
use Rattle.strand_rules.specs.Cycle.{State, front, gone, item_after}
use Rattle.strand_rules.specs.Looking.{marked_at}
use Rattle.strand_rules.specs.Kept.{IsKeptMachine}
use Rattle.strand_rules.specs.Machine.{Machine, FrontIs, made_to}
use Rattle.strand_rules.proofs.Front.{front_within}
use Rattle.strand_rules.proofs.MachineInvariant.{kept_item}

pub front_there : (g : Settings) (s : State) (n : ℕ) (o : Option ℕ) → FrontIs g s n o → (k : ℕ) × (front g s n ≡ Some k)
front_there g s n None (k, first, no_) = (k, first)
front_there g s n (Some k) (first, yes_) = (k, first)

pub persist_within : (g : Settings) (s : State) (n : ℕ) (o : Option ℕ) → length s.buffered ≡ length s.now.trace → FrontIs g s n o → IfSome o (λ k. k < length s.buffered)
persist_within g s n None same is = tt
persist_within g s n (Some k) same (first, yes_) = let within = front_within g s n k first in omega (arith, within, same)

pub front_told : (g : Settings) (s : State) (n k : ℕ) → front g s n ≡ Some k → FrontIs g s n (if event_is is_persist s.now.trace k then Some k else None)
front_told g s n k first = elim (cases_Bool (event_is is_persist s.now.trace k)) [
  | inl yes_ ↦ rw yes_ (first, yes_)
  | inr no_ ↦ rw no_ (k, first, no_)
]

-- the state after its dispatch
pub dispatched_state : (g : Settings) (s : State) (n : ℕ) (o : Option ℕ) → FrontIs g s n o → record s { dispatched = slice_set s.dispatched n (gone s n + 1); buffered = marked_at s.buffered o } ≡ item_after s n (front g s n)
dispatched_state g s n None (k, first, no_) =
    sym (ap (item_after s n) first ∙ ap (λ b. record s { dispatched = slice_set s.dispatched n (gone s n + 1); buffered = if b then slice_set s.buffered k true else s.buffered }) no_)
dispatched_state g s n (Some k) (first, yes_) =
    sym (ap (item_after s n) first ∙ ap (λ b. record s { dispatched = slice_set s.dispatched n (gone s n + 1); buffered = if b then slice_set s.buffered k true else s.buffered }) yes_)

pub kept_dispatched : (m : Machine) (n : ℕ) (o : Option ℕ) → FrontIs m.config m.state n o → IsKeptMachine m → m.made < m.steps
    → IsKeptMachine (made_to m (record m.state { dispatched = slice_set m.state.dispatched n (gone m.state n + 1); buffered = marked_at m.state.buffered o }))
kept_dispatched m n None (k, first, no_) kept room = kept_item m n k false kept room (front_within m.config m.state n k first) no_
kept_dispatched m n (Some k) (first, yes_) kept room = kept_item m n k true kept room (front_within m.config m.state n k first) yes_
