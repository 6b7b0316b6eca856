use Rattle.std.proofs.Common.{◌∙◌, sym}
use Rattle.strand_app.specs.declared.file_sizes.TheConstants.{MOST_MACHINE_BYTES}
use Rattle.strand_report.specs.declared.refusal.ContentFault.TheVariants.{Input}
use Rattle.strand_app.specs.Contents.{machine_in}
use Rattle.strand_app.proofs.FetchesFile.{found, fails_of, input_said}
use Rattle.strand_app.proofs.contents.machine_of.Goals as goal

pub returns-in-Ok : goal.returns-in-Ok
unfolding machine_in
returns-in-Ok c = found MOST_MACHINE_BYTES Input _ _ c.in-Ok.config c.requires (sym c.read_machine.ensures ∙ c.in-Ok.is)

pub returns-in-Err : goal.returns-in-Err
unfolding machine_in
returns-in-Err c = rw c.open_fault.ensures (input_said 1 (λ config. config) MOST_MACHINE_BYTES _ _ c.in-Err.fault c.requires (fails_of _ c.in-Err.fault (sym c.read_machine.ensures ∙ c.in-Err.is)))
