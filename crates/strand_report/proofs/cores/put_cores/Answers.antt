use Rattle.std.proofs.Common.{arith}
use Rattle.std.proofs.lemmas.Result.{err_from_is_err_and}
use Rattle.strand_report.specs.Cores.{core_lines}
use Rattle.strand_report.proofs.NumberedLoop.{numbered_more, numbered_stops, numbered_all}
use Rattle.strand_report.proofs.cores.put_cores.Goals as goal

pub returns-in_err-put_core : goal.returns-in_err-put_core
returns-in_err-put_core c =
    let p = err_from_is_err_and c.from_residual.result c.from_residual.ensures.1 in
    rw p.1 (numbered_stops core_lines c.args.cores.now c.loop-core.core c.index-cores-core.result _ _ _ (omega arith) c.loop-core.invariant (rw (← c.index-cores-core.is) c.in_err-put_core.ensures))

pub loop-core-preserved : goal.loop-core-preserved
loop-core-preserved c = numbered_more core_lines c.args.cores.now c.loop-core.core c.index-cores-core.result _ _ _ (omega arith) c.loop-core.invariant (rw (← c.index-cores-core.is) c.in_ok-put_core.ensures)

pub returns : goal.returns
returns c = numbered_all core_lines c.args.cores.now c.loop-core.core _ _ (omega arith) c.loop-core.invariant
