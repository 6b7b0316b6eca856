-- Serves paths_past_barriers_and_joins_are_direct: an edge, or such a path of edges, is direct order.
use Rattle.std.proofs.Common.{◌≡◌, ℕ, true, inl, inr, List, [], ◌∷◌, refl}
use Rattle.strand_inputs.specs.declared.mode.Mode.{Mode}
use Rattle.strand_events.specs.declared.event.Event.{Event}
use Rattle.strand_events.specs.Trace.{is_access, event_is}
use Rattle.strand_events.specs.Order.{directly_before}
use Rattle.strand_order.specs.DirectPaths.{AreBarriersOrJoins}
use Rattle.strand_order.specs.Graph.{EdgePath}
use Rattle.strand_events.proofs.PersistOrder.Epochs.{access_is_no_border}
use Rattle.strand_order.proofs.Paths.Steps.{From, step, last}

along : (mode : Mode) (t : List Event) (a b : ℕ) → event_is is_access t b ≡ true → (xs : List ℕ) (i : ℕ) → From mode t a i → AreBarriersOrJoins t xs → EdgePath mode t i xs b → directly_before mode t a b ≡ true
along mode t a b y [] i f inner e = last mode t a b y (step mode t a i b f e)
along mode t a b y (x ∷ xs) i f inner p = elim (step mode t a i x f p.0) [
  | inl (z, direct) ↦ absurd (access_is_no_border t x z inner.0)
  | inr g ↦ along mode t a b y xs x (inr g) inner.1 p.1
]

-- two accesses that a path joins whose inner events are barriers and joins are directly ordered
pub path_direct : (mode : Mode) (t : List Event) (a b : ℕ) (xs : List ℕ) → event_is is_access t a ≡ true → event_is is_access t b ≡ true → AreBarriersOrJoins t xs → EdgePath mode t a xs b → directly_before mode t a b ≡ true
path_direct mode t a b xs x y inner p = along mode t a b y xs a (inl (refl, x)) inner p
