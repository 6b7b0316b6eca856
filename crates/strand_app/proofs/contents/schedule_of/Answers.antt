use Rattle.std.proofs.Common.{ap, length}
use Rattle.strand_app.specs.declared.file_sizes.TheConstants.{MOST_FILE_BYTES}
use Rattle.strand_report.specs.declared.refusal.ContentFault.TheVariants.{Input}
use Rattle.strand_inputs.specs.Settings.{Settings}
use Rattle.strand_app.specs.Contents.{schedule_in}
use Rattle.strand_app.proofs.FetchesFile.{found, input_said}
use Rattle.strand_app.proofs.contents.schedule_of.Goals as goal

pub returns-in-Ok-clause-says : goal.returns-in-Ok-clause-says
unfolding schedule_in
returns-in-Ok-clause-says c =
    let said = rw (ap length c.entries.ensures.entries, ap (λ (s : Settings). s.buffers) c.config.view_is) at c.in-Ok.ensures.gives in
    found MOST_FILE_BYTES Input _ _ c.in-Ok.schedule c.requires said

pub returns-in-Err-clause-says : goal.returns-in-Err-clause-says
unfolding schedule_in
returns-in-Err-clause-says c =
    let said = rw (ap length c.entries.ensures.entries, ap (λ (s : Settings). s.buffers) c.config.view_is) at c.in-Err.ensures.gives in
    rw c.open_fault.ensures (input_said c.args.file (λ steps. steps) MOST_FILE_BYTES _ _ c.in-Err.fault c.requires said)
