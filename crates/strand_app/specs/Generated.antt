-- What a seed and a size give, without any file.
use Rattle.std.specs.Prelude.{◌≡◌, ℕ, ◌&&◌, nat_le, Ok, Err, if◌then◌else◌}
use Rattle.std.specs.declared.result.Result.{Result}
use Rattle.strand_base.specs.declared.limits.TheConstants.{MOST_STEPS}
use Rattle.strand_gen.specs.Inputs.{generated_machine, generated_schedule}
use Rattle.strand_gen.specs.Program.{generated_image}
use Rattle.strand_report.specs.declared.refusal.Refusal.{Refusal}
use Rattle.strand_report.specs.declared.refusal.Refusal.TheVariants as refusal
use Rattle.strand_again.specs.Inputs.{Inputs, inputs}
use Rattle.strand_app.specs.declared.fetching.OpenFault.{OpenFault}
use Rattle.strand_app.specs.declared.fetching.OpenFault.TheVariants.{Fetch, Refused, OutOfMemory}
use Rattle.strand_app.specs.Reads.{Reads}

-- a schedule of 1 to 200,000 steps
abbrev pub generated : (seed size : ℕ) → Result Inputs Refusal
generated seed size =
    if nat_le 1 size && nat_le size MOST_STEPS then Ok (inputs generated_machine (generated_image seed) (generated_schedule seed size)) else Err (refusal.Size size)

-- What the code found is what is read so without any file, if memory was there.
abbrev pub IsGiven : {V W : Type 0} → (W → V) → Reads V → Result W OpenFault → Type 0
IsGiven view reads (Ok found) = reads ≡ record { fetches = 0; result = Ok (view found) }
IsGiven view reads (Err (Refused refused)) = reads ≡ record { fetches = 0; result = Err refused }
IsGiven view reads (Err (Fetch k)) = ⊥
IsGiven view reads (Err OutOfMemory) = reads.fetches ≡ 0
