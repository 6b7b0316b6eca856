-- What is run, and what some of its steps come to by the cycle rules.
use Rattle.std.specs.Prelude.{ℕ, List, []}
use Rattle.strand_image.specs.ImageSeen.{ImageSeen}
use Rattle.strand_inputs.specs.Settings.{Settings}
use Rattle.strand_inputs.specs.declared.step.Step.{Step}
use Rattle.strand_rules.specs.declared.turn.Turn.{Turn}
use Rattle.strand_rules.specs.Cycle.{State, after_steps}
use Rattle.strand_rules.specs.Machine.{program_of, start_of}
use Rattle.strand_rules.specs.Run.{turns, writes_of}

-- the settings of a machine, an image, and the steps that are to be made
pub record Inputs : Type 0 where
  pub config : Settings
  pub image : ImageSeen
  pub steps : List Step

abbrev pub inputs : Settings → ImageSeen → List Step → Inputs
inputs config image steps = record { config = config; image = image; steps = steps }

-- the image with these words as its persistent words, and without symbols, at which no run looks
abbrev pub restarted : ImageSeen → List ℕ → ImageSeen
restarted image words = record image { persistent = words; symbols = [] }

-- what is run from these words: cores, volatile words and caches start anew from the image
abbrev pub inputs_from : Settings → ImageSeen → List ℕ → List Step → Inputs
inputs_from config image words steps = inputs config (restarted image words) steps

-- the state after some steps
abbrev pub state_after : Inputs → List Step → State
state_after u steps = after_steps u.config (program_of u.image) (start_of u.image) steps

-- their turns
abbrev pub turns_after : Inputs → List Step → List Turn
turns_after u steps = turns u.config (program_of u.image) (start_of u.image) steps

-- how many of them stored in the bank
abbrev pub writes_after : Inputs → List Step → ℕ
writes_after u steps = writes_of u.config (program_of u.image) (start_of u.image) steps
