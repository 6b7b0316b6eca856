-- What makes a path a proof that no chain is longer.
use Rattle.std.specs.Prelude.{◌≡◌, ℕ, zero, suc, ◌<◌, ◌≤◌, Bool, true, ◌&&◌, ◌==◌, nat_lt, nat_le, List, [], ◌∷◌, length, slice_index, max, if◌then◌else◌}
use Rattle.strand_inputs.specs.declared.mode.Mode.{Mode}
use Rattle.strand_events.specs.declared.event.Event.{Event}
use Rattle.strand_events.specs.Trace.{is_persist, event_is, persist_number}
use Rattle.strand_order.specs.Graph.{is_edge}
use Rattle.strand_order.specs.declared.edge.Edge.{Edge}
use Rattle.strand_path.specs.declared.path.Path.{Path}

-- the edge is from event i to event j
abbrev pub is_from_to : Edge → ℕ → ℕ → Bool
is_from_to e i j = (e.before == i) && (e.after == j)

-- events, each joined to the next by an edge
pub record IsRoute (mode : Mode) (t : List Event) (route : List ℕ) : Type 0 where
  pub within : (k : ℕ) → k < length route → slice_index route k < length t
  pub joined : (k : ℕ) → suc k < length route → is_edge mode t (slice_index route k) (slice_index route (suc k)) ≡ true

-- the number stands at the place of the list
abbrev pub has_at : List ℕ → ℕ → ℕ → Bool
has_at numbers place number = nat_lt place (length numbers) && (slice_index numbers place == number)

-- the numbers of the persists on a route, in order
abbrev pub numbers_on : List Event → List ℕ → List ℕ
numbers_on t [] = []
numbers_on t (x ∷ xs) = if event_is is_persist t x then persist_number t x ∷ numbers_on t xs else numbers_on t xs

-- the level of event j is at least that of event i, and greater where j is a persist
abbrev pub goes_up : List Event → List ℕ → ℕ → ℕ → Bool
goes_up t levels i j = if event_is is_persist t j then nat_lt (slice_index levels i) (slice_index levels j) else nat_le (slice_index levels i) (slice_index levels j)

-- a number for each event, at least 1 at persists, that falls along no edge and rises along edges to persists
pub record AreLevels (mode : Mode) (t : List Event) (levels : List ℕ) : Type 0 where
  pub long : length levels ≡ length t
  pub least : (p : ℕ) → event_is is_persist t p ≡ true → 1 ≤ slice_index levels p
  pub rise : (i j : ℕ) → is_edge mode t i j ≡ true → goes_up t levels i j ≡ true

-- the greatest level of the persists below event n, or 0 where there is none
abbrev pub greatest_below : List Event → List ℕ → ℕ → ℕ
greatest_below t levels zero = 0
greatest_below t levels (suc n) = if event_is is_persist t n then max (slice_index levels n) (greatest_below t levels n) else greatest_below t levels n

-- the four conditions
pub record IsChecked (mode : Mode) (t : List Event) (path : Path) : Type 0 where
  pub route : IsRoute mode t path.route
  pub chain : path.chain ≡ numbers_on t path.route
  pub levels : AreLevels mode t path.levels
  pub greatest : greatest_below t path.levels (length t) ≡ length path.chain
