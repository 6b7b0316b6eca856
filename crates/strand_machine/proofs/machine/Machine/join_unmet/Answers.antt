use Rattle.std.proofs.Common.{◌≡◌, sym, ap, ◌∙◌}
use Rattle.strand_inputs.specs.declared.conflict.Conflict.TheVariants.{Tag}
use Rattle.strand_inputs.specs.Settings.{Settings}
use Rattle.strand_tags.specs.declared.core_waits.CoreWaits.{CoreWaits}
use Rattle.strand_machine.specs.Machine.{some_missing}
use Rattle.strand_machine.specs.Stand.{Tally}
use Rattle.strand_machine.proofs.Turn.Waits.{unmet_by_counts}
use Rattle.strand_machine.proofs.machine.Machine.join_unmet.Goals as goal

pub returns-in-Tag : goal.returns-in-Tag
returns-in-Tag c =
    let r = c.args.self.now in
    let tag : r.machine.config.conflict ≡ Tag = ap (λ (g : Settings). g.conflict) (sym c.config.ensures ∙ sym c.config-2.view_is) ∙ c.in-Tag.is in
    c.some_missing.ensures
    ∙ ap (λ (w : CoreWaits). some_missing r.machine.state w.all.counts) (c.waits.ensures ∙ ap (λ (t : Tally). t.waits) c.tally.ensures)
    ∙ unmet_by_counts r c.keeps.ensures.holds c.args.n tag c.requires
