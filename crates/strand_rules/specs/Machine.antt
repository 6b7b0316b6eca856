-- The machine as contracts see it, and what a step leaves of it and of the bank.
use Rattle.std.specs.Prelude.{◌≡◌, ℕ, ◌+◌, Bool, true, false, List, length, map, slice_get, Some, None, Ok, Err}
use Rattle.std.specs.declared.option.Option.{Option}
use Rattle.strand_image.specs.ImageSeen.{ImageSeen}
use Rattle.strand_inputs.specs.Settings.{Settings}
use Rattle.strand_inputs.specs.declared.step.Step.{Step}
use Rattle.strand_inputs.specs.declared.step.Step.TheVariants.{Core, Dispatch, Send, Write}
use Rattle.strand_exec.specs.Core as cores
use Rattle.strand_exec.specs.Core.{fresh}
use Rattle.strand_exec.specs.Plan.{effect_of}
use Rattle.strand_exec.specs.Effects.{HasRegister, IsAligned}
use Rattle.strand_exec.specs.declared.effect.Effect.{Effect}
use Rattle.strand_exec.specs.declared.life.Life.TheVariants.{Running}
use Rattle.strand_events.specs.Trace.{event_is, is_persist, persists_of}
use Rattle.strand_rules.specs.declared.turn.Turn.{Turn}
use Rattle.strand_rules.specs.declared.turn.Turn.TheVariants.{Done, Bubble, Fault}
use Rattle.strand_modules.specs.Bank.{BankSeen, Stores, store_refused, front_written}
use Rattle.strand_rules.specs.Images.{persistent_image}
use Rattle.strand_rules.specs.Cycle.{WordStore, State, front, turn, after, word_store_of, start_at, durable_set}
use Rattle.strand_rules.specs.Visible.{Program}

-- a machine's settings, program and state, how many steps it made, and for how many it has room
pub record Machine : Type 0 where
  pub config : Settings
  pub program : Program
  pub state : State
  pub made : ℕ
  pub steps : ℕ

-- the program of an image
abbrev pub program_of : ImageSeen → Program
program_of p = record { code = p.code; sizes = record { volatile = length p.volatile; persistent = length p.persistent } }

-- the state before the first step: each core at its entry, the memory as in the image
abbrev pub start_of : ImageSeen → State
start_of p = start_at (map fresh p.entries) (record { volatile = p.volatile; persistent = p.persistent })

-- the machine of an image before its first step, with room for so many
abbrev pub machine_at : Settings → ImageSeen → ℕ → Machine
machine_at g p steps = record { config = g; program = program_of p; state = start_of p; made = 0; steps = steps }

-- the machine after a step that was done or a bubble
abbrev pub stepped : Machine → Step → Machine
stepped m step = record m { state = after m.config m.program m.state step; made = m.made + 1 }

-- what a step that is done stores in the bank
abbrev pub stored_for : State → Option ℕ → Option WordStore
stored_for s None = None
stored_for s (Some k) = Some (word_store_of s k)

abbrev pub stored_by : State → Step → Option WordStore
stored_by s (Write j) = stored_for s (slice_get s.flight j)
stored_by s (Core n) = None
stored_by s (Dispatch n) = None
stored_by s (Send n b j) = None

-- one accepted store, if there is something to store
abbrev pub StoresOk : Option WordStore → BankSeen → BankSeen → Type 0
StoresOk None old new = new ≡ old
StoresOk (Some r) old new = Stores {T = Unit {0}} store_refused old new r.place r.value (Ok tt)

-- one refused store
abbrev pub StoresErr : Option WordStore → BankSeen → BankSeen → ℕ → Type 0
StoresErr None old new m = ⊥
StoresErr (Some r) old new m = Stores {T = Unit {0}} store_refused old new r.place r.value (Err (record { «module» = m }))

-- What a step leaves. A fault comes only at a step that would have been done, where the bank refused its store.
abbrev pub StepLeaves : Machine → Machine → BankSeen → BankSeen → Step → Turn → Type 0
StepLeaves old new bank bank' step (Fault m) = (turn old.config old.program old.state step ≡ Done) × (new ≡ old) × StoresErr (stored_by old.state step) bank bank' m
StepLeaves old new bank bank' step (Bubble cause) = (turn old.config old.program old.state step ≡ Bubble cause) × (new ≡ stepped old step) × (bank' ≡ bank)
StepLeaves old new bank bank' step Done = (turn old.config old.program old.state step ≡ Done) × (new ≡ stepped old step) × StoresOk (stored_by old.state step) bank bank'

-- A step changes neither the settings, the program, the room and the number of cores, nor the bank's size.
pub record SameSetup (old new : Machine) (bank bank' : BankSeen) : Type 0 where
  pub config : new.config ≡ old.config
  pub program : new.program ≡ old.program
  pub steps : new.steps ≡ old.steps
  pub cores : length new.state.now.cores ≡ length old.state.now.cores
  pub size : bank'.size ≡ bank.size

-- whether each persist is durable, in trace order
abbrev pub durable_persists : State → List Bool
durable_persists s = map (durable_set s) (persists_of s.now.trace)

-- Core n runs, and this is what its next instruction does.
pub record NextEffect (m : Machine) (n : ℕ) (effect : Effect) : Type 0 where
  pub core : cores.Core
  pub there : slice_get m.state.now.cores n ≡ Some core
  pub running : core.life ≡ Running
  pub effect_is : effect ≡ effect_of core m.program.code m.program.sizes
  pub register : HasRegister effect
  pub aligned : IsAligned m.program.sizes effect

-- The first item of core n's queue is this persist, by its event number, or it is no persist.
abbrev pub FrontIs : Settings → State → ℕ → Option ℕ → Type 0
FrontIs g s n None = (k : ℕ) × (front g s n ≡ Some k) × (event_is is_persist s.now.trace k ≡ false)
FrontIs g s n (Some k) = (front g s n ≡ Some k) × (event_is is_persist s.now.trace k ≡ true)

-- the machine with another state after one step more
abbrev pub made_to : Machine → State → Machine
made_to m s = record m { state = s; made = m.made + 1 }

-- The bank stands for a state: its first words are the image of the durable set over the initial words, the others are those of `base`.
abbrev pub Stands : List ℕ → Option (List ℕ) → State → BankSeen → Type 0
Stands words base s bank = bank.told ≡ front_written (persistent_image words s.now.trace (durable_set s)) base

-- A bank that stands for the one state stands for the other afterwards, whatever the initial words and the words behind them.
abbrev pub StandsOn : ℕ → State → State → BankSeen → BankSeen → Type 0
StandsOn count old new bank bank' = (words : List ℕ) (base : Option (List ℕ)) → length words ≡ count → Stands words base old bank → Stands words base new bank'
