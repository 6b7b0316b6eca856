-- What a machine file, an image and a schedule say, and what is run of it.
use Rattle.std.specs.Prelude.{ℕ, length, take, nat_lt, Ok, Err, if◌then◌else◌}
use Rattle.std.specs.declared.result.Result.{Result}
use Rattle.strand_inputs.specs.Stop.{steps_to}
use Rattle.strand_inputs.specs.declared.stop.Stop.{Stop}
use Rattle.strand_inputs.specs.declared.stop.StopPast.{StopPast}
use Rattle.strand_report.specs.declared.refusal.Refusal.{Refusal}
use Rattle.strand_report.specs.declared.refusal.Refusal.TheVariants as refusal
use Rattle.strand_again.specs.Inputs.{Inputs, inputs}
use Rattle.strand_app.specs.Contents.{machine_in, image_in, schedule_in}
use Rattle.strand_app.specs.Reads.{Contents, Reads, file, decided, given, ◌>>=◌}

-- all steps of the schedule
abbrev pub run_files : Contents → Reads Inputs
run_files contents = do
  config ← file 1 machine_in contents
  image ← file 2 image_in contents
  steps ← file 3 (schedule_in config image) contents
  given (inputs config image steps)

abbrev pub or_past : Result ℕ StopPast → Result ℕ Refusal
or_past (Ok count) = Ok count
or_past (Err past) = Err (refusal.Stop past)

-- a bank of so many words, for an image of so many persistent words
abbrev pub bank_holds : ℕ → ℕ → Result (Unit {0}) Refusal
bank_holds size need = if nat_lt size need then Err (refusal.Bank need size) else Ok tt

-- The steps up to the stop are run, on a bank of so many words.
abbrev pub cut_off : ℕ → Stop → Inputs → Reads Inputs
cut_off size stop u = do
  count ← decided (or_past (steps_to stop (length u.steps)))
  _ ← decided (bank_holds size (length u.image.persistent))
  given (record u { steps = take count u.steps })
