-- The report of what the programs of a run saw and of what it made durable.
use Rattle.std.specs.Prelude.{◌≡◌, ℕ, ◌≤◌, Bool, List, length}
use Rattle.std.specs.Option.{option_map}
use Rattle.std.specs.declared.option.Option.{Option}
use Rattle.strand_inputs.specs.Settings.{Settings}
use Rattle.strand_inputs.specs.declared.mode.Mode.{Mode}
use Rattle.strand_inputs.specs.declared.step.Step.{Step}
use Rattle.strand_machine.specs.Cached.{cache_counts}
use Rattle.strand_modules.specs.Bank.{BankSeen}
use Rattle.strand_path.specs.Chains.{IsChain}
use Rattle.strand_path.specs.Chosen.{IsChosenChain}
use Rattle.strand_report.specs.Report.{View, report_text}
use Rattle.strand_report.specs.declared.module_fault.ModuleFault.{ModuleFault}
use Rattle.strand_report.specs.declared.module_fault.ModulePhase.TheVariants as phase
use Rattle.strand_rules.specs.declared.turn.BubbleAt.{BubbleAt}
use Rattle.strand_rules.specs.declared.turn.StepFault.{StepFault}
use Rattle.strand_rules.specs.Bubbles.{bubbles_of}
use Rattle.strand_rules.specs.Machine.{durable_persists}
use Rattle.strand_rules.specs.Visible.{Visible}
use Rattle.strand_again.specs.Inputs.{Inputs, state_after, turns_after}
use Rattle.strand_again.specs.Seen.{visible_after, AreHeld}

-- those of some steps that did nothing
abbrev pub bubbles_after : Inputs → List Step → List BubbleAt
bubbles_after u steps = bubbles_of (turns_after u steps)

-- the fault that a module's refusal is: of the fill, of the store of a step, or of the read at the end
abbrev pub fill_fault : ℕ → ModuleFault
fill_fault m = record { «module» = m; phase = phase.Fill }

abbrev pub store_fault : StepFault → ModuleFault
store_fault f = record { «module» = f.«module»; phase = phase.Step f.step }

abbrev pub read_fault : ℕ → ModuleFault
read_fault m = record { «module» = m; phase = phase.Read }

-- what a report shows: the steps, what the programs saw, the bubbles, the words that were read, which persists are durable, the hits and misses
-- of the trace's accesses by the cache rule, and the store that was refused
abbrev pub shown : Settings → ℕ → Visible → List BubbleAt → List ℕ → List Bool → Option StepFault → View
shown g steps seen bubbles held durable fault = record {
  stop = steps;
  cores = seen.cores;
  trace = seen.trace;
  bubbles = bubbles;
  visible = seen.memory;
  held = held;
  durable = durable;
  counts = cache_counts g (length seen.cores) seen.trace;
  fault = option_map store_fault fault;
}

-- what it shows after some steps, by the visible run
abbrev pub view_after : Inputs → List Step → List ℕ → Option StepFault → View
view_after u steps held fault = shown u.config (length steps) (visible_after u steps) (bubbles_after u steps) held (durable_persists (state_after u steps)) fault

-- The text is a report of this, and its path is the chosen chain; no chain of persist order is longer.
pub record Reports (mode : Mode) (view : View) (text : List ℕ) : Type 0 where
  pub chain : List ℕ
  pub chosen : IsChosenChain mode view.trace chain
  pub longest : (other : List ℕ) → IsChain mode view.trace other → length other ≤ length chain
  pub is : text ≡ report_text view chain

-- The text is the report of the visible run after some steps, with such words and the store that was refused behind them.
pub record ReportsRun (u : Inputs) (steps : List Step) (before : BankSeen) (fault : Option StepFault) (text : List ℕ) : Type 0 where
  pub held : List ℕ
  pub are_held : AreHeld u steps before held
  pub reports : Reports u.config.mode (view_after u steps held fault) text
