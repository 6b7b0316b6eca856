use Rattle.std.proofs.Common.{sym, ap, subst}
use Rattle.strand_cache.specs.declared.change.Change.TheVariants.{Read, Merge}
use Rattle.strand_cache.specs.Seen.{Seen}
use Rattle.strand_machine.specs.Changed.{GoesThrough, IsCached}
use Rattle.strand_machine.specs.Stand.{PartsSeen}
use Rattle.strand_machine.proofs.parts.Parts.access.Goals as goal

pub returns-in-Load-clause-cache : goal.returns-in-Load-clause-cache
returns-in-Load-clause-cache c =
    let e = c.access.ensures in
    let made : IsCached c.self.inside.cache c.access.new.self c.args.n c.in-Load.word Read = record { hits = c.access.result.hit; cores = e.cores; shape = e.shape; memory = e.memory; counts = e.counts; access = e.access } in
    subst (GoesThrough c.args.self.now.cache c.access.new.self c.args.n) (sym c.in-Load.is)
    (subst (λ (old : Seen). IsCached old c.access.new.self c.args.n c.in-Load.word Read) (ap (λ (p : PartsSeen). p.cache) c.self.view_is) made)

pub returns-in-Store-clause-cache : goal.returns-in-Store-clause-cache
returns-in-Store-clause-cache c =
    let e = c.access-in-Store.ensures in
    let change = Merge c.in-Store.mask c.in-Store.bits in
    let made : IsCached c.self.inside.cache c.access-in-Store.new.self c.args.n c.in-Store.word change = record { hits = c.access-in-Store.result.hit; cores = e.cores; shape = e.shape; memory = e.memory; counts = e.counts; access = e.access } in
    subst (GoesThrough c.args.self.now.cache c.access-in-Store.new.self c.args.n) (sym c.in-Store.is)
    (subst (λ (old : Seen). IsCached old c.access-in-Store.new.self c.args.n c.in-Store.word change) (ap (λ (p : PartsSeen). p.cache) c.self.view_is) made)
