-- What the code knows of files that were opened for generations.
use Rattle.std.specs.Prelude.{◌≡◌, ℕ, List, [], ◌∷◌, ◌++◌, length, map, Some, None, Ok, Err}
use Rattle.std.specs.declared.option.Option.{Option}
use Rattle.std.specs.declared.result.Result.{Result}
use Rattle.strand_base.specs.FilesSeen.{FilesSeen}
use Rattle.strand_image.specs.ImageSeen.{ImageSeen}
use Rattle.strand_inputs.specs.Settings.{Settings}
use Rattle.strand_inputs.specs.Stop.{steps_to}
use Rattle.strand_inputs.specs.declared.step.Step.{Step}
use Rattle.strand_inputs.specs.declared.stop.Stop.{Stop}
use Rattle.strand_inputs.specs.declared.stop.StopPast.{StopPast}
use Rattle.strand_report.specs.declared.refusal.Refusal.{Refusal}
use Rattle.strand_report.specs.declared.refusal.Refusal.TheVariants as refusal
use Rattle.strand_app.specs.declared.again_words.AgainWords.{AgainWords}
use Rattle.strand_app.specs.declared.commands.again.Cut.{Cut}
use Rattle.strand_app.specs.declared.commands.again.Part.{Part}
use Rattle.strand_app.specs.declared.commands.again.Parts.{Parts as CodeParts}
use Rattle.strand_app.specs.declared.fetching.OpenFault.{OpenFault}
use Rattle.strand_app.specs.AgainOnBank.{parts_of, steps_of}
use Rattle.strand_app.specs.Command.{Pair}
use Rattle.strand_app.specs.CommandView.{pairs_asked}
use Rattle.strand_app.specs.Commands.Again.{Parts, and_schedules, cut_off_all, program_reads}
use Rattle.strand_app.specs.Files.{Opened}
use Rattle.strand_app.specs.Opening.{OpensTo}

-- the names of the files of generations
abbrev pub program_names : AgainWords → List (List ℕ)
program_names words = words.machine.now ∷ words.image.now ∷ []

abbrev pub schedule_names : List Pair → List (List ℕ)
schedule_names pairs = map (λ (p : Pair). p.schedule) pairs

abbrev pub again_names : AgainWords → List (List ℕ)
again_names words = program_names words ++ schedule_names (pairs_asked words.pairs.now)

abbrev pub program_seen : Settings × ImageSeen → Parts
program_seen p = record { config = p.0; image = p.1; steps = [] }

abbrev pub parts_seen : CodeParts → Parts
parts_seen found = parts_of found.config found.image found.parts.items

-- the part that a schedule and its stop make, if the stop is within its steps
abbrev pub part_at : List Step → Result ℕ StopPast → List Part
part_at steps (Ok count) = record { schedule = steps; stop = count } ∷ []
part_at steps (Err past) = []

abbrev pub parts_within : List Step → Stop → List Part
parts_within steps stop = part_at steps (steps_to stop (length steps))

-- the first stop that was past its steps, with one more stop
abbrev pub first_past : Option StopPast → Result ℕ StopPast → Option StopPast
first_past (Some past) count = Some past
first_past None (Ok count) = None
first_past None (Err past) = Some past

-- what is known of the parts
abbrev pub parts_or : List Part → Option StopPast → Result (List (List Step)) Refusal
parts_or parts None = Ok (map steps_of parts)
parts_or parts (Some past) = Err (refusal.Stop past)

module _ (words : AgainWords) (config : Settings) (image : ImageSeen) (entry after : FilesSeen) where
  -- All schedules were read, and cut off at their stops.
  pub record ReadsParts (cut : Cut) : Type 0 where
    pub steps : List (List Step)
    pub opened : Opened (again_names words) (and_schedules 3 (pairs_asked words.pairs.now) program_reads) entry after (Ok (record { config = config; image = image; steps = steps }))
    pub cut_off : cut_off_all (pairs_asked words.pairs.now) steps ≡ parts_or cut.parts.items cut.past

  abbrev pub ReadsPartsTo : Result Cut OpenFault → Type 0
  ReadsPartsTo (Ok cut) = ReadsParts cut
  ReadsPartsTo (Err fault) = OpensTo {W = Parts} (again_names words) (and_schedules 3 (pairs_asked words.pairs.now) program_reads) (λ parts. parts) entry after (Err fault)

-- so wherever machine file and image were opened before
abbrev pub FetchesParts : AgainWords → Settings → ImageSeen → FilesSeen → FilesSeen → Result Cut OpenFault → Type 0
FetchesParts words config image between after result =
    (entry : FilesSeen) → Opened (program_names words) program_reads entry between (Ok (program_seen (config, image))) → ReadsPartsTo words config image entry after result
