-- The levels in one pass over the edges, and with them the first persist that leads to an event and the edge that brought it.
use Rattle.std.specs.Prelude.{◌≡◌, ℕ, suc, ◌+◌, ◌<◌, ◌≤◌, Bool, true, ◌&&◌, ◌||◌, ◌==◌, nat_lt, List, length, slice_index, slice_set, if◌then◌else◌}
use Rattle.strand_inputs.specs.declared.mode.Mode.{Mode}
use Rattle.strand_events.specs.declared.event.Event.{Event}
use Rattle.strand_events.specs.Trace.{is_persist, event_is}
use Rattle.strand_order.specs.declared.edge.Edge.{Edge}
use Rattle.strand_order.specs.Graph.{is_edge}
use Rattle.strand_path.specs.declared.tracing.Traces.{Traces}
use Rattle.strand_path.specs.Checked.{AreLevels}
use Rattle.strand_path.specs.Building.{own_level, AreSupported}
use Rattle.strand_path.specs.Picking.{IsPick}

-- the first persist of event i's level that is event i or leads to it
abbrev pub top : List Event → List ℕ → ℕ → ℕ
top t firsts i = if event_is is_persist t i then i else slice_index firsts i

-- the edge brings its later event a higher level than it has, or an earlier persist of the same
abbrev pub is_better : List Event → List ℕ → List ℕ → Edge → Bool
is_better t levels firsts e = nat_lt 0 (slice_index levels e.before) && (nat_lt (slice_index levels e.after) (slice_index levels e.before + own_level t e.after)
    || ((slice_index levels e.after == slice_index levels e.before + own_level t e.after) && nat_lt (top t firsts e.before) (slice_index firsts e.after)))

abbrev pub firsts_after : List Event → List ℕ → List ℕ → Edge → List ℕ
firsts_after t levels firsts e = if is_better t levels firsts e then slice_set firsts e.after (top t firsts e.before) else firsts

abbrev pub vias_after : List Event → List ℕ → List ℕ → List ℕ → Edge → List ℕ
vias_after t levels firsts vias e = if is_better t levels firsts e then slice_set vias e.after (suc e.before) else vias

-- event j has its level below and its first persist from event i, by an edge
pub record IsVia (mode : Mode) (t : List Event) (levels firsts : List ℕ) (j i : ℕ) : Type 0 where
  pub edge : is_edge mode t i j ≡ true
  pub level : slice_index levels i + own_level t j ≡ slice_index levels j
  pub positive : 1 ≤ slice_index levels i
  pub first : slice_index firsts j ≡ top t firsts i

-- each via is an edge from which the level comes, and each event that something leads to with a level has one
pub record AreVias (mode : Mode) (t : List Event) (levels firsts vias : List ℕ) : Type 0 where
  pub long : length vias ≡ length t
  pub via : (j i : ℕ) → slice_index vias j ≡ suc i → IsVia mode t levels firsts j i
  pub onward : (j : ℕ) → own_level t j < slice_index levels j → 1 ≤ slice_index vias j

-- the first persist of the level below each persist
pub record AreFirsts (mode : Mode) (t : List Event) (levels firsts : List ℕ) : Type 0 where
  pub long : length firsts ≡ length t
  pub pick : (q level : ℕ) → event_is is_persist t q ≡ true → slice_index levels q ≡ suc level → 1 ≤ level → IsPick mode t levels q level (slice_index firsts q)

-- the vias of an answer are such links
abbrev pub IsLinked : Mode → List Event → Traces → Type 0
IsLinked mode t traces = AreVias mode t traces.levels.items traces.firsts.items traces.vias.items

-- what one pass over the edges gives
pub record AreTraces (mode : Mode) (t : List Event) (traces : Traces) : Type 0 where
  pub levels : AreLevels mode t traces.levels.items
  pub supported : AreSupported mode t traces.levels.items
  pub firsts : AreFirsts mode t traces.levels.items traces.firsts.items
  pub linked : IsLinked mode t traces
