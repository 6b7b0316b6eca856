use Rattle.std.proofs.Common.{◌≡◌, sym, ap, ◌∙◌}
use Rattle.strand_inputs.specs.declared.conflict.Conflict.TheVariants.{Tag}
use Rattle.strand_inputs.specs.Settings.{Settings}
use Rattle.strand_machine.proofs.Turn.Waits.{no_wait_noted}
use Rattle.strand_machine.proofs.machine.Machine.next_wait.Goals as goal

pub returns-in-Tag-2 : goal.returns-in-Tag-2
returns-in-Tag-2 c =
    let m = c.args.self.now.machine in
    let tag : m.config.conflict ≡ Tag = ap (λ (g : Settings). g.conflict) (sym c.config.ensures ∙ sym c.config-2.view_is) ∙ c.in-Tag.is in
    rw c.in-Some.is (no_wait_noted m.config.conflict m.config.mode m.state.now.trace c.in-Some.event tag (sym c.is_access.ensures ∙ c.if-is_access.false))
