-- Levels that are raised edge by edge, and attained.
use Rattle.std.specs.Prelude.{◌≡◌, ℕ, suc, ◌+◌, ◌<◌, ◌≤◌, true, max, List, length, slice_index, slice_set, if◌then◌else◌}
use Rattle.strand_inputs.specs.declared.mode.Mode.{Mode}
use Rattle.strand_events.specs.declared.event.Event.{Event}
use Rattle.strand_events.specs.Trace.{is_persist, event_is}
use Rattle.strand_order.specs.declared.edge.Edge.{Edge}
use Rattle.strand_order.specs.Graph.{LeadsTo}

-- what an event adds to the levels before it
abbrev pub own_level : List Event → ℕ → ℕ
own_level t k = if event_is is_persist t k then 1 else 0

-- the levels before any edge is followed
pub record AreOwn (t : List Event) (n : ℕ) (levels : List ℕ) : Type 0 where
  pub long : length levels ≡ n
  pub own : (k : ℕ) → k < n → slice_index levels k ≡ own_level t k

-- the levels after an edge was followed
abbrev pub raised : List Event → Edge → List ℕ → List ℕ
raised t e levels = slice_set levels e.after (max (slice_index levels e.after) (slice_index levels e.before + own_level t e.after))

-- a persist of one level less leads to persist j
pub record Support (mode : Mode) (t : List Event) (levels : List ℕ) (j : ℕ) : Type 0 where
  pub from : ℕ
  pub persist : event_is is_persist t from ≡ true
  pub level : suc (slice_index levels from) ≡ slice_index levels j
  pub path : LeadsTo mode t from j

abbrev pub AreSupported : Mode → List Event → List ℕ → Type 0
AreSupported mode t levels = (j : ℕ) → event_is is_persist t j ≡ true → 2 ≤ slice_index levels j → Support mode t levels j
