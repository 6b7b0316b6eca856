use Rattle.std.proofs.Common.{◌∙◌, ap}
use Rattle.strand_machine.specs.KeptMachine.{seen}
use Rattle.strand_machine.specs.Machine.{RingMachine, some_missing}
use Rattle.strand_machine.proofs.Turn.Waits.{missing_by_counts}
use Rattle.strand_machine.proofs.machine.Machine.some_missing.Goals as goal

pub returns : goal.returns
returns c =
    let r = seen c.self.inside in
    c.some_missing.ensures
    ∙ missing_by_counts r c.self.invariant.stand c.args.counts.now
    ∙ ap (λ (r : RingMachine). some_missing r.machine.state c.args.counts.now) c.self.view_is
