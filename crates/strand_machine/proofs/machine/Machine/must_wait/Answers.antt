use Rattle.std.proofs.Common.{◌∙◌}
use Rattle.strand_machine.proofs.Turn.Waits.{all_fit_more, must_by_counts}
use Rattle.strand_machine.proofs.machine.Machine.must_wait.Goals as goal

pub returns : goal.returns
returns c =
    let e = c.args.event in
    c.some_missing.ensures
    ∙ must_by_counts c.args.self.now c.keeps.ensures.holds e c.requires.access c.covered-covered.result.counts c.covered-covered.ensures c.requires.stall
    (all_fit_more c.args.self.now.machine.state.now.trace e c.keeps.ensures.fits c.requires.marked)
