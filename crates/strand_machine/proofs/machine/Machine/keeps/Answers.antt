use Rattle.std.proofs.Common.{subst}
use Rattle.strand_machine.specs.Machine.{IsRingMachine}
use Rattle.strand_machine.proofs.Turn.Item.{holds_inside}
use Rattle.strand_machine.proofs.machine.Machine.keeps.Goals as goal

pub returns-clause-holds : goal.returns-clause-holds
returns-clause-holds c = subst IsRingMachine c.self.view_is (holds_inside c.self.inside c.self.invariant c.keeps.ensures.kept c.keeps.ensures.buffers)
