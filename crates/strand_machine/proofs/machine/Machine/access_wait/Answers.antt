use Rattle.std.proofs.Common.{◌++◌, [], ◌∷◌, length, ap, ◌∙◌, rules}
use Rattle.std.specs.Prelude.{◌==◌, max, slice_index}
use Rattle.strand_inputs.specs.Settings.{Settings}
use Rattle.strand_events.specs.Vectors.{next_by_order}
use Rattle.strand_events.specs.Waits.{wait}
use Rattle.strand_tags.specs.WaitEntries.{wait_entry}
use Rattle.strand_tags.specs.declared.core_waits.CoreWaits.{CoreWaits}
use Rattle.strand_tags.proofs.Vectors.{each_is}
use Rattle.strand_machine.specs.Stand.{Tally}
use Rattle.strand_machine.proofs.Turn.Waits.{wait_by_counts}
use Rattle.strand_machine.proofs.machine.Machine.access_wait.Goals as goal

pub returns : goal.returns
returns c =
    let m = c.args.self.now.machine in
    let n = c.args.n in
    let counts = c.covered-covered.result.counts in
    each_is (λ k. wait m.config.mode (m.state.now.trace ++ c.args.event ∷ []) k (length m.state.now.trace)) c.greater.result.counts (search rules)
    (λ k lt.
    c.greater.ensures k lt
    ∙ ap (max (slice_index counts k)) (c.by_order.ensures k lt
    ∙ ap (λ (g : Settings). next_by_order g.mode (k == n) (wait_entry c.waits.result.now k)) (c.config.view_is ∙ c.config-config.ensures)
    ∙ ap (λ (w : CoreWaits). next_by_order m.config.mode (k == n) (wait_entry w k)) (c.waits.ensures ∙ ap (λ (t : Tally). t.waits) c.tally.ensures))
    ∙ wait_by_counts c.args.self.now c.keeps.ensures.holds c.args.event c.requires.access counts c.covered-covered.ensures c.requires.tag n c.requires.fits.core c.requires.core k lt)
