use Rattle.std.proofs.Common.{ℕ}
use Rattle.strand_modules.specs.Transfer.{MovesWords}
use Rattle.strand_modules.proofs.transfer.move_words.Given as goal

abbrev pub invariant-loop-copied : goal.invariant-loop-copied
invariant-loop-copied g l =
    (size : ℕ) → MovesWords size l.first l.copied ((goal.PmModule-dyn g (l.initial.from.vtable, l.initial.from.value)).holds l.initial.from.value) ((goal.PmModule-dyn g (l.from.vtable, l.from.value)).holds l.from.value)
    ((goal.PmModule-dyn g (l.initial.to.vtable, l.initial.to.value)).holds l.initial.to.value) ((goal.PmModule-dyn g (l.to.vtable, l.to.value)).holds l.to.value)
