use Rattle.std.proofs.Common.{arith, map}
use Rattle.std.proofs.lemmas.List.{length-map}
use Rattle.strand_modules.proofs.SpareObject.{spare_taken}
use Rattle.strand_modules.proofs.bank.ModuleBank.take_spare.Goals as goal

pub returns : goal.returns
returns g c =
    rw (c.take.ensures.value, c.take.ensures.after)
    (spare_taken (λ part. (goal.PmModule-dyn g (part.vtable, part.value)).holds part.value) (map (λ part. (goal.PmModule-dyn g (part.vtable, part.value)).holds part.value) c.args.self.now.modules.items) c.args.self.now.migration c.args.self.now.refusals c.args.self.now.accepted c.args.self.now.spare c.if-self.false
    (omega (arith, c.args.self.now.some, c.args.self.now.modules.ok.0, length-map c.args.self.now.modules.items (λ part. (goal.PmModule-dyn g (part.vtable, part.value)).holds part.value))))
