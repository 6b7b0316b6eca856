-- trace MACHINE IMAGE SCHEDULE STOP: the events of a run and the edges of their graph.
use Rattle.std.specs.Prelude.{◌≡◌, ℕ, List, [], ◌∷◌}
use Rattle.strand_inputs.specs.declared.stop.Stop.{Stop}
use Rattle.strand_modules.specs.Bank.{BankSeen}
use Rattle.strand_report.specs.Trace.{trace_text}
use Rattle.strand_again.specs.Inputs.{Inputs}
use Rattle.strand_again.specs.Seen.{visible_after}
use Rattle.strand_app.specs.declared.status.Status.{Status}
use Rattle.strand_app.specs.declared.status.Status.TheVariants as status
use Rattle.strand_app.specs.Commands.Run.{run_reads}
use Rattle.strand_app.specs.Machine.{machine_rule}
use Rattle.strand_app.specs.Rule.{Rule, Text}

abbrev pub PutsTrace : Inputs → BankSeen → Status → Text → Type 0
PutsTrace u before end text = (end ≡ status.Ok) × (text ≡ trace_text u.config.mode (visible_after u u.steps).trace)

abbrev pub trace_rule : (machine image schedule : List ℕ) → Stop → BankSeen → Rule
trace_rule machine image schedule stop before =
    machine_rule Inputs (λ u. u) PutsTrace (λ u text. ⊥) (machine ∷ image ∷ schedule ∷ []) (run_reads before.size stop) before
