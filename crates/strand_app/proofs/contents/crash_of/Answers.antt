use Rattle.std.proofs.Common.{◌∙◌, ap, length}
use Rattle.strand_app.specs.declared.file_sizes.TheConstants.{MOST_CRASH_BYTES}
use Rattle.strand_report.specs.declared.refusal.ContentFault.TheVariants.{Input}
use Rattle.strand_app.specs.Contents.{crash_in}
use Rattle.strand_app.proofs.FetchesFile.{found, input_said, crash_words}
use Rattle.strand_app.proofs.contents.crash_of.Goals as goal

pub returns-in-Ok-clause-says : goal.returns-in-Ok-clause-says
unfolding crash_in
returns-in-Ok-clause-says c = found MOST_CRASH_BYTES Input _ _ c.in-Ok.words c.requires (rw (ap length c.persistent.ensures.persistent) at c.in-Ok.ensures.gives)

pub returns-in-Ok-clause-long : goal.returns-in-Ok-clause-long
returns-in-Ok-clause-long c = crash_words _ _ _ c.in-Ok.ensures.gives ∙ ap length c.persistent.ensures.persistent

pub returns-in-Err-clause-says : goal.returns-in-Err-clause-says
unfolding crash_in
returns-in-Err-clause-says c =
    let said = rw (ap length c.persistent.ensures.persistent) at c.in-Err.ensures.gives in
    rw c.open_fault.ensures (input_said 4 (λ words. words) MOST_CRASH_BYTES _ _ c.in-Err.fault c.requires said)
