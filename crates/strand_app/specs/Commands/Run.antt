-- run MACHINE IMAGE SCHEDULE STOP: the report of a run.
use Rattle.std.specs.Prelude.{◌≡◌, ℕ, List, [], ◌∷◌, None}
use Rattle.strand_inputs.specs.declared.stop.Stop.{Stop}
use Rattle.strand_modules.specs.Bank.{BankSeen}
use Rattle.strand_again.specs.Inputs.{Inputs}
use Rattle.strand_run.specs.Seen.{ReportsRun}
use Rattle.strand_app.specs.declared.status.Status.{Status}
use Rattle.strand_app.specs.declared.status.Status.TheVariants as status
use Rattle.strand_app.specs.Machine.{machine_rule}
use Rattle.strand_app.specs.Reads.{Contents, Reads, ◌>>=◌}
use Rattle.strand_app.specs.Rule.{Rule, Text}
use Rattle.strand_app.specs.RunFiles.{run_files, cut_off}

-- on a bank of so many words
abbrev pub run_reads : ℕ → Stop → Contents → Reads Inputs
run_reads size stop contents = do
  u ← run_files contents
  cut_off size stop u

abbrev pub PutsReport : Inputs → BankSeen → Status → Text → Type 0
PutsReport u before end text = (end ≡ status.Ok) × ReportsRun u u.steps before None text

abbrev pub run_rule : (machine image schedule : List ℕ) → Stop → BankSeen → Rule
run_rule machine image schedule stop before =
    machine_rule Inputs (λ u. u) PutsReport (λ u text. ⊥) (machine ∷ image ∷ schedule ∷ []) (run_reads before.size stop) before
