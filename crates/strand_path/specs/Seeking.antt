-- An edge that is sought in the list of the edges, from a place on.
use Rattle.std.specs.Prelude.{◌≡◌, ℕ, ◌<◌, ◌≤◌, Bool, true, false, ◌&&◌, ◌||◌, ◌==◌, nat_lt, List, Option, Some, None, length, slice_get}
use Rattle.strand_order.specs.declared.edge.Edge.{Edge}
use Rattle.strand_path.specs.Checked.{is_from_to}

-- the edge stands before one from event i to event j
abbrev pub stands_before : Edge → ℕ → ℕ → Bool
stands_before e i j = nat_lt e.after j || ((e.after == j) && nat_lt e.before i)

-- the first place, from a place on, whose edge doesn't stand before one from event i to event j
pub record IsSought (edges : List Edge) (i j from place : ℕ) : Type 0 where
  pub low : from ≤ place
  pub within : place ≤ length edges
  pub before : (m : ℕ) (e : Edge) → from ≤ m → m < place → slice_get edges m ≡ Some e → stands_before e i j ≡ true
  pub here : (e : Edge) → slice_get edges place ≡ Some e → stands_before e i j ≡ false

-- there is an edge, and it is from event i to event j
abbrev pub joins : ℕ → ℕ → Option Edge → Bool
joins i j None = false
joins i j (Some e) = is_from_to e i j
