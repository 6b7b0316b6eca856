use Rattle.strand_machine.proofs.Turn.Waits.{some_by_counts}
use Rattle.strand_machine.proofs.machine.Machine.some_wait.Goals as goal

pub returns : goal.returns
returns c = let by = some_by_counts c.args.self.now c.keeps.ensures.holds c.args.n c.requires in cc (c.first.ensures, c.made.ensures.made, c.tally-tally.ensures, by)
