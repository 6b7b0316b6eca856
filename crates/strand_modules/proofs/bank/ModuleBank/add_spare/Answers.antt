use Rattle.std.proofs.Common.{◌∙◌, sym}
use Rattle.strand_modules.proofs.SpareObject.{spare_added}
use Rattle.strand_modules.proofs.bank.ModuleBank.add_spare.Goals as goal

pub returns-clause-ok : goal.returns-clause-ok
returns-clause-ok g c =
    spare_added (λ part. (goal.PmModule-dyn g (part.vtable, part.value)).holds part.value) _ c.args.self.now.migration _ _ c.args.self.now.spare c.args.object (sym c.is_some.ensures ∙ c.if-is_some.false)
    (rw c.deref.ensures.value at (sym c.part_words-have.ensures.size ∙ sym c.if-need-have.false ∙ c.object_size-need.ensures.size))
