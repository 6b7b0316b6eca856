use Rattle.std.proofs.Common.{sym}
use Rattle.strand_asm.proofs.ImageLimits.{fits, labels_fit}
use Rattle.strand_asm.proofs.assembling.assemble.Goals as goal

pub symbols-requires : goal.symbols-requires
symbols-requires c = labels_fit c.args.text.now c.in_ok-layout.layout c.in_ok-layout.ensures (sym c.in_ok-check_limits.ensures.gives)

pub finish-requires : goal.finish-requires
finish-requires c = rw c.in-Ok.ensures (fits c.args.text.now c.in_ok-layout.layout c.in_ok-draft.draft c.in_ok-layout.ensures (sym c.in_ok-check_limits.ensures.gives) c.in_ok-draft.ensures)
