-- What is run of files, as the code finds it.
use Rattle.std.specs.Prelude.{◌≡◌, ℕ, Ok, Err}
use Rattle.std.specs.declared.result.Result.{Result}
use Rattle.strand_inputs.specs.declared.stop.Stop.{Stop}
use Rattle.strand_report.specs.declared.refusal.Refusal.{Refusal}
use Rattle.strand_again.specs.Inputs.{Inputs}
use Rattle.strand_app.specs.declared.opening.Setup.{Setup}
use Rattle.strand_app.specs.Opening.{inputs_of}
use Rattle.strand_app.specs.RunFiles.{cut_off}

abbrev pub IsCutOff : ℕ → Stop → Inputs → Result Setup Refusal → Type 0
IsCutOff size stop u (Ok setup) = cut_off size stop u ≡ record { fetches = 0; result = Ok (inputs_of setup) }
IsCutOff size stop u (Err refused) = cut_off size stop u ≡ record { fetches = 0; result = Err refused }
