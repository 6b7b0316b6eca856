use Rattle.std.proofs.Common.{ℕ, arith}
use Rattle.strand_modules.specs.Transfer.{Moves}
use Rattle.strand_modules.proofs.PartSize.{size_seen, changes_in}
use Rattle.strand_modules.proofs.transfer.move_from.Goals as goal

pub returns : goal.returns
returns g c =
    changes_in (λ part. (goal.PmModule-dyn g (part.vtable, part.value)).holds part.value) c.args.modules.now.items c.args.index c.index_mut.result.now c.move_words.new.from
    (λ before after. (size : ℕ) → Moves size c.args.first c.args.count before after ((goal.PmModule-dyn g (c.args.to.now.vtable, c.args.to.now.value)).holds c.args.to.now.value) ((goal.PmModule-dyn g (c.move_words.new.to.vtable, c.move_words.new.to.value)).holds c.move_words.new.to.value) c.move_words.result)
    (omega arith) c.index_mut.ensures.value c.move_words.ensures

pub move_words-requires-clause-from : goal.move_words-requires-clause-from
move_words-requires-clause-from g c = λ some.
    omega (arith, c.requires.from some, size_seen (λ part. (goal.PmModule-dyn g (part.vtable, part.value)).holds part.value) c.args.modules.now.items c.args.index c.index_mut.result.now (omega arith) c.index_mut.ensures.value)
