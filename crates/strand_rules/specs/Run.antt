-- The turns of a run, and the store of it that a module may refuse.
use Rattle.std.specs.Prelude.{◌≡◌, ℕ, ◌+◌, ◌-◌, ◌%◌, ◌≤◌, List, [], ◌∷◌, take, slice_get, Some, None}
use Rattle.std.specs.declared.option.Option.{Option}
use Rattle.strand_inputs.specs.Settings.{Settings}
use Rattle.strand_inputs.specs.declared.step.Step.{Step}
use Rattle.strand_rules.specs.declared.turn.StepFault.{StepFault}
use Rattle.strand_rules.specs.declared.turn.Turn.{Turn}
use Rattle.strand_rules.specs.declared.turn.Turn.TheVariants.{Done, Bubble, Fault}
use Rattle.strand_rules.specs.Visible.{Program}
use Rattle.strand_rules.specs.Cycle.{WordStore, State, turn, after, after_steps}
use Rattle.strand_rules.specs.Machine.{stored_by}

-- the turns of some steps, where the bank takes what is stored
abbrev pub turns : Settings → Program → State → List Step → List Turn
turns g p s [] = []
turns g p s (step ∷ steps) = turn g p s step ∷ turns g p (after g p s step) steps

-- how many stores of the bank a turn is, where this is what it stores
abbrev pub stores_of : Turn → Option WordStore → ℕ
stores_of Done None = 0
stores_of Done (Some request) = 1
stores_of (Bubble cause) stored = 0
stores_of (Fault m) stored = 0

-- how many of some steps store in the bank, where it takes what is stored
abbrev pub writes_of : Settings → Program → State → List Step → ℕ
writes_of g p s [] = 0
writes_of g p s (step ∷ steps) = stores_of (turn g p s step) (stored_by s step) + writes_of g p (after g p s step) steps

-- the state before step number k
abbrev pub before_step : Settings → Program → State → List Step → ℕ → State
before_step g p s steps k = after_steps g p s (take (k - 1) steps)

-- Step number `failed.step` is a write that would be done, and this module of so many has the word that it stores.
pub record CanFail (g : Settings) (p : Program) (s : State) (steps : List Step) (modules : ℕ) (failed : StepFault) : Type 0 where
  pub number : 1 ≤ failed.step
  pub step : Step
  pub there : slice_get steps (failed.step - 1) ≡ Some step
  pub done : turn g p (before_step g p s steps failed.step) step ≡ Done
  pub request : WordStore
  pub stores : stored_by (before_step g p s steps failed.step) step ≡ Some request
  pub holder : failed.«module» ≡ request.place % modules
