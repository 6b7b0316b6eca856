-- The report of a run: what it is made of, and all its lines in their order.
use Rattle.std.specs.Prelude.{ℕ, Bool, List, [], ◌∷◌}
use Rattle.std.specs.declared.option.Option.{Option}
use Rattle.std.specs.declared.option.Option.TheVariants.{Some, None}
use Rattle.std.specs.Fmt.{decimal}
use Rattle.std.specs.List.{concat}
use lib.Chars.{codes}
use Rattle.strand_base.specs.Text.{line_text}
use Rattle.strand_exec.specs.Core.{Core}
use Rattle.strand_exec.specs.Memory.{Memory}
use Rattle.strand_events.specs.declared.event.Event.{Event}
use Rattle.strand_cache.specs.declared.counts.Counts.{Counts}
use Rattle.strand_rules.specs.declared.turn.BubbleAt.{BubbleAt}
use Rattle.strand_report.specs.declared.module_fault.ModuleFault.{ModuleFault}
use Rattle.strand_report.specs.Bubbles.{bubble_lines}
use Rattle.strand_report.specs.Caches.{cache_line}
use Rattle.strand_report.specs.Cores.{core_lines}
use Rattle.strand_report.specs.FaultLines.{module_fault_line}
use Rattle.strand_report.specs.Numbered.{numbered_texts}
use Rattle.strand_report.specs.Outs.{out_lines}
use Rattle.strand_report.specs.Persists.{durable_line, path_line}
use Rattle.strand_report.specs.Words.{held_lines, visible_lines}

-- a run as it is seen when it has ended: how many steps were made, the cores, what they did, the steps that did nothing,
-- the memory that the cores see, what the modules hold, which persists are durable, how many accesses of each core hit and
-- missed, and the refusal that ended it
pub record View : Type 0 where
  pub stop : ℕ
  pub cores : List Core
  pub trace : List Event
  pub bubbles : List BubbleAt
  pub visible : Memory
  pub held : List ℕ
  pub durable : List Bool
  pub counts : List Counts
  pub fault : Option ModuleFault

-- "stop S": S steps were made
abbrev pub stop_line : ℕ → List ℕ
stop_line stop = line_text (codes "stop" ∷ decimal stop ∷ [])

-- where a module refused something, that
abbrev pub fault_lines : Option ModuleFault → List ℕ
fault_lines None = []
fault_lines (Some fault) = module_fault_line fault

-- the lines of each kind, in the order of the report
abbrev pub report_parts : View → List ℕ → List (List ℕ)
report_parts view chain =
    stop_line view.stop
    ∷ numbered_texts core_lines view.cores
    ∷ out_lines view.trace
    ∷ bubble_lines view.bubbles
    ∷ visible_lines view.visible
    ∷ held_lines view.held
    ∷ durable_line view.durable
    ∷ path_line chain
    ∷ numbered_texts cache_line view.counts
    ∷ fault_lines view.fault
    ∷ []

-- the report of a run with this chosen chain
unfoldable pub report_text : View → List ℕ → List ℕ
report_text view chain = concat (report_parts view chain)
