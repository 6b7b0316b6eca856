-- Where the edges to an event end in the list of the edges.
use Rattle.std.specs.Prelude.{◌≡◌, ℕ, ◌<◌, ◌⊎◌, Bool, true, false, ◌==◌, List, Option, Some, None, length, slice_get, slice_index}
use Rattle.strand_inputs.specs.declared.mode.Mode.{Mode}
use Rattle.strand_events.specs.declared.event.Event.{Event}
use Rattle.strand_events.specs.Order.{set_of}
use Rattle.strand_order.specs.declared.edge.Edge.{Edge}
use Rattle.strand_order.specs.Graph.{is_edge}
use Rattle.strand_order.specs.Edges.{edges_of}
use Rattle.strand_order.specs.Lasts.{since_below}
use Rattle.strand_judge.specs.Worklist.{IsListed, Grows}

abbrev pub leads_in : ℕ → Option Edge → Bool
leads_in j None = false
leads_in j (Some e) = e.after == j

-- edge m of the list leads to event j
abbrev pub leads_at : Mode → List Event → ℕ → ℕ → Bool
leads_at mode t j m = leads_in j (slice_get (edges_of mode t) m)

-- for each event, one more than the last edge to it among the first n edges, or 0
pub record AreEnds (mode : Mode) (t : List Event) (n : ℕ) (ends : List ℕ) : Type 0 where
  pub long : length ends ≡ length t
  pub end : (j : ℕ) → j < length t → slice_index ends j ≡ since_below n (leads_at mode t j)

-- the earlier events of the edges to event j are marked, and nothing else more
pub record IsFollowed (mode : Mode) (t : List Event) (j : ℕ) (marks : List Bool) (list : List ℕ) (marks' : List Bool) (list' : List ℕ) : Type 0 where
  pub listed : IsListed (length t) marks' list'
  pub grows : Grows (length t) marks list marks' list'
  pub only : (i : ℕ) → set_of marks' i ≡ true → (set_of marks i ≡ true) ⊎ (is_edge mode t i j ≡ true)
  pub all : (i : ℕ) → is_edge mode t i j ≡ true → set_of marks' i ≡ true
