-- Serves clause path of paths_are_persist_order: a path of edges between two accesses is persist order.
use Rattle.std.proofs.Common.{◌≡◌, ℕ, ◌<◌, true, ◌⊎◌, inl, inr, List, [], ◌∷◌, ◌++◌, refl, ap, ◌∙◌, arith}
use Rattle.strand_inputs.specs.declared.mode.Mode.{Mode}
use Rattle.strand_events.specs.declared.event.Event.{Event}
use Rattle.strand_events.specs.Trace.{is_access, event_is}
use Rattle.strand_events.specs.Order.{directly_before, Leads, Before}
use Rattle.strand_order.specs.Graph.{is_edge, EdgePath, LeadsTo}
use Rattle.strand_order.proofs.Paths.Steps.{From, step, last, edge_less}

-- j is an access that a is or comes before, or a barrier or join that orders such an access
abbrev Reach : Mode → List Event → ℕ → ℕ → Type 0
Reach mode t a j = (x : ℕ) × ((a ≡ x) ⊎ Before mode t a x) × From mode t x j

leads_more : (mode : Mode) (t : List Event) (xs : List ℕ) (a i j : ℕ) → Leads mode t a xs i → directly_before mode t i j ≡ true → Leads mode t a (xs ++ i ∷ []) j
leads_more mode t [] a i j p e = (p, e)
leads_more mode t (x ∷ xs) a i j p e = (p.0, leads_more mode t xs x i j p.1 e)

further : (mode : Mode) (t : List Event) (a i j : ℕ) → (a ≡ i) ⊎ Before mode t a i → directly_before mode t i j ≡ true → Before mode t a j
further mode t a i j (inl e) d = ([], ap (λ x. directly_before mode t x j) e ∙ d)
further mode t a i j (inr b) d = (b.0 ++ i ∷ [], leads_more mode t b.0 a i j b.1 d)

reach_more : (mode : Mode) (t : List Event) (a i j : ℕ) → Reach mode t a i → is_edge mode t i j ≡ true → Reach mode t a j
reach_more mode t a i j (x, ab, f) e = elim (step mode t x i j f e) [
  | inl (y, direct) ↦ (j, inr (further mode t a x j ab direct), inl (refl, y))
  | inr gated ↦ (x, ab, inr gated)
]

along : (mode : Mode) (t : List Event) (a b : ℕ) → event_is is_access t b ≡ true → (xs : List ℕ) (i : ℕ) → Reach mode t a i → EdgePath mode t i xs b → Before mode t a b
along mode t a b y [] i (x, ab, f) e = further mode t a x b ab (last mode t x b y (step mode t x i b f e))
along mode t a b y (x ∷ xs) i reach p = along mode t a b y xs x (reach_more mode t a i x reach p.0) p.1

pub path_less : (mode : Mode) (t : List Event) (xs : List ℕ) (i j : ℕ) → EdgePath mode t i xs j → i < j
path_less mode t [] i j e = edge_less mode t i j e
path_less mode t (x ∷ xs) i j p = omega (arith, edge_less mode t i x p.0, path_less mode t xs x j p.1)

-- paths between accesses are persist order
pub path_before : (mode : Mode) (t : List Event) (a b : ℕ) → event_is is_access t a ≡ true → event_is is_access t b ≡ true → LeadsTo mode t a b → Before mode t a b
path_before mode t a b x y path = along mode t a b y path.0 a (a, inl refl, inl (refl, x)) path.1
