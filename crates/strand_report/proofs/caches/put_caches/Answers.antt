use Rattle.std.proofs.Common.{arith}
use Rattle.std.proofs.lemmas.Result.{err_from_is_err_and}
use Rattle.strand_report.specs.Caches.{cache_line}
use Rattle.strand_report.proofs.NumberedLoop.{numbered_more, numbered_stops, numbered_all}
use Rattle.strand_report.proofs.caches.put_caches.Goals as goal

pub returns-in_err-put_cache : goal.returns-in_err-put_cache
returns-in_err-put_cache c =
    let p = err_from_is_err_and c.from_residual.result c.from_residual.ensures.1 in
    rw p.1 (numbered_stops cache_line c.args.cores.now c.loop-core.core _ _ _ _ (omega arith) c.loop-core.invariant c.in_err-put_cache.ensures)

pub loop-core-preserved : goal.loop-core-preserved
loop-core-preserved c = numbered_more cache_line c.args.cores.now c.loop-core.core _ _ _ _ (omega arith) c.loop-core.invariant c.in_ok-put_cache.ensures

pub returns : goal.returns
returns c = numbered_all cache_line c.args.cores.now c.loop-core.core _ _ (omega arith) c.loop-core.invariant
